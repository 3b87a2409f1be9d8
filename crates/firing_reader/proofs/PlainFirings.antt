-- The firing of a plain row.
use Rattle.std.proofs.Common.{◌≡◌, ◌<◌, ◌≤◌, ◌^◌, ℕ, pos, List, [], ◌∷◌, Some, Ok, refl, ap}
use Rattle.csv.specs.Records.{field_at}
use Rattle.firings.specs.declared.firing.Firing.{Firing}
use Rattle.firing_reader.specs.Column.{columns, number_from}
use Rattle.firing_reader.specs.Plain.{ReadsOwner, ReadsProbe}
use Rattle.firing_reader.specs.Steps.Plain.{ReadsArguments}
use Rattle.firings.specs.Probing.{probe_of}
use Rattle.firing_reader.specs.Steps.Stored.{owner_of}
use Rattle.firing_reader.specs.Trace.{next_of}
use Rattle.firings.proofs.Texts.{text_is}
use Rattle.firing_reader.proofs.Fields.{AreNumbers}
use Rattle.firing_reader.proofs.RowFaults.{AreTexts, next_is, numbers_of}

-- the columns 1 and 6: numbers, and the fields that write them
pub record ReadsNumbers (f : Firing) : Type 0 where
  pub x1 : List ℕ
  pub x6 : List ℕ
  pub is_number : number_from 1 (2 ^ 62) x1 ≡ Some f.number
  pub is_time : number_from 0 0xFFFF_FFFF_FFFF_FFFF x6 ≡ Some f.time

module _ {b0 r0 b1 r1 b2 r2 : List ℕ} (f : Firing) (h : ReadsNumbers f) (o : ReadsOwner b0 r0 (owner_of f)) (n : ReadsProbe b1 r1 (probe_of f)) (a : ReadsArguments b2 r2 f.args) where
  abbrev pub fields : List (List ℕ)
  fields = h.x1 ∷ o.x2 ∷ o.x3 ∷ o.x4 ∷ o.x5 ∷ h.x6 ∷ n.x7 ∷ n.x8 ∷ n.x9 ∷ n.x10 ∷ a.x0 ∷ a.x1 ∷ a.x2 ∷ a.x3 ∷ a.x4 ∷ a.x5 ∷ a.x6 ∷ a.x7 ∷ a.x8 ∷ a.x9 ∷ []

  numbers_are : AreNumbers fields columns (numbers_of f)
  unfolding field_at
  numbers_are = rw (h.is_number, o.is_cpu, o.is_thread, o.is_pid, o.is_execname, h.is_time, n.is_provider, n.is_probemod, n.is_probefunc, n.is_name)
      (ap (λ os. Some (pos f.number) ∷ Some f.cpu ∷ Some f.thread ∷ Some f.pid ∷ Some (pos 0) ∷ Some (pos f.time) ∷ Some (pos 0) ∷ Some (pos 0) ∷ Some (pos 0) ∷ Some (pos 0) ∷ os) a.values)

  texts_are : AreTexts fields f
  unfolding field_at
  texts_are = record {
    execname = (text_is o.x5 f.execname o.is_execname).0;
    provider = (text_is n.x7 f.provider n.is_provider).0;
    probemod = (text_is n.x8 f.probemod n.is_probemod).0;
    probefunc = (text_is n.x9 f.probefunc n.is_probefunc).0;
    name = (text_is n.x10 f.name n.is_name).0;
  }

  pub firing_ok : (row last : ℕ) → row ≤ 1_000_000 → last < f.number → next_of row last fields ≡ Ok f
  firing_ok row last few rises = next_is row last fields f refl numbers_are texts_are n.unreserved few rises
