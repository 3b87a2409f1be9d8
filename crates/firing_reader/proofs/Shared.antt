-- Units that are kept with their bytes, and what they say.
use Rattle.std.proofs.Common.{◌≡◌, ◌<◌, ◌≤◌, ◌+◌, ◌-◌, ◌∙◌, ℕ, zero, suc, true, false, List, [], ◌∷◌, ◌++◌}
use Rattle.std.proofs.Common.{length, map, All, Option, None, Some, refl, sym, ap, subst, arith}
use Rattle.std.proofs.Common.{append-nil, length-append}
use Rattle.std.specs.Prelude.{IfSome, MatchOption, codes, slice_get}
use Rattle.std.proofs.Math.Seq.{drop-append-add, drop-append_seam, take-append_seam}
use Rattle.std.proofs.lemmas.List.{map-append, take_all}
use Rattle.std.proofs.lemmas.List.Elements.{All-append, All-cons, All-head, All-nil, All-tail}
use Rattle.firing_reader.specs.Vocabulary.{bytes_eq}
use Rattle.firings.specs.declared.unit.OwnerEntry.{OwnerEntry}
use Rattle.firings.specs.declared.unit.ProbeEntry.{ProbeEntry}
use Rattle.firings.specs.declared.unit.Owner.{Owner}
use Rattle.firings.specs.declared.unit.Probe.{Probe}
use Rattle.firings.specs.declared.units.Known.{Known}
use Rattle.firings.specs.Texts.{text_of}
use Rattle.firing_reader.specs.Plain.{ReadsOwner, ReadsProbe}
use Rattle.firing_reader.specs.Column.{Whole, value_of}
use Rattle.firing_reader.specs.Steps.Plain.{BeginsWith}
use Rattle.firings.specs.Stored.{AreIndices, Extends}
use Rattle.firing_reader.specs.UnitTable.{IsReadIn}
use Rattle.firings.specs.Units.{IsProbeIn, IsTextIn, IsUnitIn, name_at, owner_in, part, probe_in}
use Rattle.firings.specs.Units.{probefunc_at, probemod_at, unit_in}
use Rattle.firings.proofs.Texts.{text_is}
use Rattle.firing_reader.proofs.PlainRows.{passes_more, passes_one, unit_passes}
use Rattle.firings.proofs.Stored.{part_more, seen_at}

-- ---- units of any kind

last_part : (b key : List ℕ) → part (b ++ key) (length b) (length key) ≡ key
last_part b key = rw (drop-append_seam b key) (take_all (length key) key (omega arith))

unit_more : {E : Type 0} (I R : E → List ℕ → Type 0) (b key : List ℕ) (k : Known E) → IsReadIn I R b k → IsReadIn I R (b ++ key) k
unit_more I R b key k h =
    let size = length-append b key in
    let same = part_more b (b ++ key) k.begin k.count (key, refl) h.unit.inside in
    record { unit = record { inside = omega (arith, size, h.unit.inside); is_in = rw same h.unit.is_in }; reads = rw same h.reads }

units_same : {E : Type 0} (I R : E → List ℕ → Type 0) (b key : List ℕ) (ks : List (Known E)) → All (IsReadIn I R b) ks → map (unit_in (b ++ key)) ks ≡ map (unit_in b) ks
units_same I R b key [] all = refl
units_same I R b key (k ∷ ks) all = rw (part_more b (b ++ key) k.begin k.count (key, refl) (All-head (IsReadIn I R b) k ks all).unit.inside, units_same I R b key ks (All-tail (IsReadIn I R b) k ks all)) refl

-- one more at the end
pub unit_push : {E : Type 0} (I R : E → List ℕ → Type 0) (b key : List ℕ) (ks : List (Known E)) (k : Known E) (old : List (List ℕ × E)) → All (IsReadIn I R b) ks → map (unit_in b) ks ≡ old
    → k.begin ≡ length b → k.count ≡ length key → map (unit_in (b ++ key)) (ks ++ k ∷ []) ≡ old ++ (key, k.entry) ∷ []
unit_push I R b key ks k old all is first many =
    let one : unit_in (b ++ key) k ≡ (key, k.entry) = rw (first, many, last_part b key) refl in
    map-append (unit_in (b ++ key)) ks (k ∷ []) ∙ rw (units_same I R b key ks all, is, one) refl

pub units_push : {E : Type 0} (I R : E → List ℕ → Type 0) (b key : List ℕ) (ks : List (Known E)) (k : Known E) → All (IsReadIn I R b) ks → k.begin ≡ length b → k.count ≡ length key → I k.entry key
    → (k.plain ≡ true → R k.entry key) → All (IsReadIn I R (b ++ key)) (ks ++ k ∷ [])
units_push I R b key ks k all first many is_in reads =
    let P = IsReadIn I R (b ++ key) in
    let size = length-append b key in
    let one : P k = record { unit = record { inside = omega (arith, size, first, many); is_in = rw (first, many, last_part b key) is_in }; reads = rw (first, many, last_part b key) reads } in
    All-append P ks (k ∷ []) (λ i d within. unit_more I R b key _ (all i d within)) (All-cons P k [] one (All-nil P))

-- a list that one more was added to, if there was memory: it goes on, and has it at the new index
last_there : {X : Type 0} (xs : List X) (x : X) → slice_get (xs ++ x ∷ []) (length xs) ≡ Some x
last_there [] x = refl
last_there (y ∷ xs) x = last_there xs x

pub push_gains : {X : Type 0} (xs ys : List X) (x : X) (found : Option ℕ) → MatchOption found (ys ≡ xs) (λ p. (ys ≡ xs ++ x ∷ []) × (p ≡ length xs))
    → Extends xs ys × IfSome found (λ p. slice_get ys p ≡ Some x)
push_gains xs ys x None same = (([], same ∙ sym (append-nil xs)), tt)
push_gains xs ys x (Some p) (is, at) = ((x ∷ [], is), rw (is, at) (last_there xs x))

-- what is there, whether it was read or not
pub units_there : {E : Type 0} (I R : E → List ℕ → Type 0) (b : List ℕ) (ks : List (Known E)) → All (IsReadIn I R b) ks → All (IsUnitIn I b) ks
units_there I R b ks all = λ i d within. (all i d within).unit

-- ---- what is seen of units

pub seen_extends : {X Y : Type 0} (f : X → Y) (xs ys : List X) → Extends xs ys → Extends (map f xs) (map f ys)
seen_extends f xs ys (more, is) = (map f more, ap (map f) is ∙ map-append f xs more)

pub seen_indices : {X Y : Type 0} (f : X → Y) (all : List X) (indices : List ℕ) (others : List X) → AreIndices all indices others → AreIndices (map f all) indices (map f others)
seen_indices f all [] [] are = refl
seen_indices f all [] (x ∷ xs) are = absurd cc
seen_indices f all (p ∷ ps) [] are = absurd cc
seen_indices f all (p ∷ ps) (x ∷ xs) are =
    let first : slice_get all p ≡ Some x = cc in
    let more : AreIndices all ps xs = cc in
    rw (seen_at f all p x first, seen_indices f all ps xs more) refl

pub seen_kept : {X Y : Type 0} (f : X → Y) (all : List X) (x : X) (y : Y) (found : Option ℕ) → f x ≡ y → IfSome found (λ p. slice_get all p ≡ Some x) → IfSome found (λ p. slice_get (map f all) p ≡ Some y)
seen_kept f all x y None is there = tt
seen_kept {X} {Y} f all x y (Some p) is there = seen_at f all p x there ∙ ap (λ (z : Y). Some z) is

-- what is at an index
pub one_there : {X : Type 0} (xs : List X) (i : ℕ) → i < length xs → (x : X) × (slice_get xs i ≡ Some x)
one_there [] i lt = absurd (omega arith)
one_there (x ∷ xs) zero lt = (x, refl)
one_there (x ∷ xs) (suc i) lt = one_there xs i (omega arith)

-- ---- texts in the bytes of a unit

pub record IsPart (bytes : List ℕ) (begin count : ℕ) (text : List ℕ) : Type 0 where
  pub inside : begin + count ≤ length bytes
  pub is : part bytes begin count ≡ text
  pub own : text_of text ≡ Some text

pub part_text : (bytes : List ℕ) (begin count : ℕ) (text : List ℕ) → IsPart bytes begin count text → IsTextIn bytes begin count
part_text bytes begin count text h = record { inside = h.inside; text = rw h.is h.own }

pub part_first : (bytes text rest : List ℕ) (count : ℕ) → bytes ≡ text ++ rest → count ≡ length text → text_of text ≡ Some text → IsPart bytes 0 count text
part_first bytes text rest count is many own =
    let size = ap length is in
    let both = length-append text rest in
    record { inside = omega (arith, size, both, many); is = rw (is, many) (take-append_seam text rest); own = own }

part_next : (bytes first more text : List ℕ) (c begin at count : ℕ) → bytes ≡ first ++ c ∷ more → at ≡ length first + suc begin → IsPart more begin count text → IsPart bytes at count text
part_next bytes first more text c begin at count is index h =
    let size = ap length is in
    let both = length-append first (c ∷ more) in
    record { inside = omega (arith, size, both, index, h.inside); is = rw (is, index, drop-append-add first (c ∷ more) (suc begin)) h.is; own = h.own }

-- the text that a field writes is the field
pub own_field : (field text : List ℕ) → text_of field ≡ Some text → (field ≡ text) × (text_of text ≡ Some text)
own_field field text read =
    let is = (text_is field text read).0 in
    (sym is, ap text_of is ∙ read)

-- ---- owners

-- the text after three numbers
owner_text : (b0 b1 b2 b3 rest x2 x3 x4 name : List ℕ) (from count : ℕ) → b0 ≡ x2 ++ 44 ∷ b1 → b1 ≡ x3 ++ 44 ∷ b2 → b2 ≡ x4 ++ 44 ∷ b3 → b3 ≡ name ++ rest → from ≡ length b0 - length b3
    → count ≡ length name → text_of name ≡ Some name → IsPart b0 from count name
owner_text b0 b1 b2 b3 rest x2 x3 x4 name from count is0 is1 is2 is3 index many own =
    let at2 = length x4 + suc 0 in
    let at1 = length x3 + suc at2 in
    let both0 = length-append x2 (44 ∷ b1) in
    let both1 = length-append x3 (44 ∷ b2) in
    let both2 = length-append x4 (44 ∷ b3) in
    let before : from ≡ length x2 + suc at1 = omega (arith, ap length is0, both0, ap length is1, both1, ap length is2, both2, index) in
    let last = part_first b3 name rest count is3 many own in
    part_next b0 x2 b1 name 44 at1 from count is0 before (part_next b1 x3 b2 name 44 at2 at1 count is1 refl (part_next b2 x4 b3 name 44 0 at2 count is2 refl last))

-- the fields of an owner, one after another
pub owner_parsed : (key b1 b2 b3 b4 : List ℕ) (e : OwnerEntry) (name : List ℕ) → (field : List ℕ) × BeginsWith key field (44 ∷ b1) × (value_of (Whole 0 0x7FFF_FFFF) field ≡ Some e.cpu)
    → (field : List ℕ) × BeginsWith b1 field (44 ∷ b2) × (value_of (Whole 1 0x7FFF_FFFF) field ≡ Some e.thread) → (field : List ℕ) × BeginsWith b2 field (44 ∷ b3) × (value_of (Whole 0 0x7FFF_FFFF) field ≡ Some e.pid)
    → (field : List ℕ) × BeginsWith b3 field (44 ∷ b4) × (text_of field ≡ Some name) → e.from ≡ length key - length b3 → e.count ≡ length name → b4 ≡ []
    → IsTextIn key e.from e.count × ReadsOwner key [] (owner_in (key, e))
owner_parsed key b1 b2 b3 b4 e name (x2, f2, cpu) (x3, f3, thread) (x4, f4, pid) (x5, f5, execname) index many none =
    let (same, own) = own_field x5 name execname in
    let split : b3 ≡ name ++ 44 ∷ b4 = rw same at f5.split in
    let there = owner_text key b1 b2 b3 (44 ∷ b4) x2 x3 x4 name e.from e.count f2.split f3.split f4.split split index many own in
    let two = passes_more key b1 b2 (x2 ∷ []) (x3 ∷ []) (passes_one key x2 b1 f2) (passes_one b1 x3 b2 f3) in
    let three = passes_more key b2 b3 (x2 ∷ x3 ∷ []) (x4 ∷ []) two (passes_one b2 x4 b3 f4) in
    let all = passes_more key b3 b4 (x2 ∷ x3 ∷ x4 ∷ []) (x5 ∷ []) three (passes_one b3 x5 b4 f5) in
    (part_text key e.from e.count name there, record { x2 = x2; x3 = x3; x4 = x4; x5 = x5; passes = rw none at all; is_cpu = cpu; is_thread = thread; is_pid = pid; is_execname = execname ∙ ap (λ t. Some t) (sym there.is) })

-- the fields of an owner, whatever comes after them
pub owner_read : (key rest bytes : List ℕ) (o : Owner) → ReadsOwner key [] o → bytes ≡ key ++ rest → ReadsOwner bytes rest o
owner_read key rest bytes o h is = record {
  x2 = h.x2;
  x3 = h.x3;
  x4 = h.x4;
  x5 = h.x5;
  passes = unit_passes key rest bytes (h.x2 ∷ h.x3 ∷ h.x4 ∷ h.x5 ∷ []) h.passes is;
  is_cpu = h.is_cpu;
  is_thread = h.is_thread;
  is_pid = h.is_pid;
  is_execname = h.is_execname;
}

-- ---- probes

-- the texts of a probe are those of the bytes
pub record HasTexts (bytes : List ℕ) (e : ProbeEntry) (p : Probe) : Type 0 where
  pub provider : IsPart bytes 0 e.provider p.provider
  pub probemod : IsPart bytes (probemod_at e) e.probemod p.probemod
  pub probefunc : IsPart bytes (probefunc_at e) e.probefunc p.probefunc
  pub name : IsPart bytes (name_at e) e.name p.name

pub probe_texts_in : (bytes : List ℕ) (e : ProbeEntry) (p : Probe) → HasTexts bytes e p → IsProbeIn e bytes
probe_texts_in bytes e p h = record {
  provider = part_text bytes 0 e.provider p.provider h.provider;
  probemod = part_text bytes (probemod_at e) e.probemod p.probemod h.probemod;
  probefunc = part_text bytes (probefunc_at e) e.probefunc p.probefunc h.probefunc;
  name = part_text bytes (name_at e) e.name p.name h.name;
}

pub probe_is : (bytes : List ℕ) (e : ProbeEntry) (p : Probe) → HasTexts bytes e p → probe_in (bytes, e) ≡ p
probe_is bytes e p h = rw (h.provider.is, h.probemod.is, h.probefunc.is, h.name.is) refl

-- each text is as long as the entry says
pub record AreLong (e : ProbeEntry) (p : Probe) : Type 0 where
  pub provider : e.provider ≡ length p.provider
  pub probemod : e.probemod ≡ length p.probemod
  pub probefunc : e.probefunc ≡ length p.probefunc
  pub name : e.name ≡ length p.name

-- and a text
pub record AreTexts (p : Probe) : Type 0 where
  pub provider : text_of p.provider ≡ Some p.provider
  pub probemod : text_of p.probemod ≡ Some p.probemod
  pub probefunc : text_of p.probefunc ≡ Some p.probefunc
  pub name : text_of p.name ≡ Some p.name

-- texts with one byte after each
pub probe_texts : (c : ℕ) (b0 b1 b2 b3 b4 : List ℕ) (e : ProbeEntry) (p : Probe) → b0 ≡ p.provider ++ c ∷ b1 → b1 ≡ p.probemod ++ c ∷ b2 → b2 ≡ p.probefunc ++ c ∷ b3 → b3 ≡ p.name ++ c ∷ b4 → AreLong e p
    → AreTexts p → HasTexts b0 e p
probe_texts c b0 b1 b2 b3 b4 e p is0 is1 is2 is3 n t =
    let m1 = part_first b1 p.probemod (c ∷ b2) e.probemod is1 n.probemod t.probemod in
    let f2 = part_first b2 p.probefunc (c ∷ b3) e.probefunc is2 n.probefunc t.probefunc in
    let f1 = part_next b1 p.probemod b2 p.probefunc c 0 (length p.probemod + suc 0) e.probefunc is1 refl f2 in
    let n3 = part_first b3 p.name (c ∷ b4) e.name is3 n.name t.name in
    let n2 = part_next b2 p.probefunc b3 p.name c 0 (length p.probefunc + suc 0) e.name is2 refl n3 in
    let n1 = part_next b1 p.probemod b2 p.name c (length p.probefunc + suc 0) (length p.probemod + suc (length p.probefunc + suc 0)) e.name is1 refl n2 in
    record {
      provider = part_first b0 p.provider (c ∷ b1) e.provider is0 n.provider t.provider;
      probemod = part_next b0 p.provider b1 p.probemod c 0 (probemod_at e) e.probemod is0 (omega (arith, n.provider)) m1;
      probefunc = part_next b0 p.provider b1 p.probefunc c (length p.probemod + suc 0) (probefunc_at e) e.probefunc is0 (omega (arith, n.provider, n.probemod)) f1;
      name = part_next b0 p.provider b1 p.name c (length p.probemod + suc (length p.probefunc + suc 0)) (name_at e) e.name is0 (omega (arith, n.provider, n.probemod, n.probefunc)) n1;
    }

-- the bytes of a probe that csv read
pub probe_kept : (bytes : List ℕ) (e : ProbeEntry) (p : Probe) → bytes ≡ p.provider ++ 0 ∷ (p.probemod ++ 0 ∷ (p.probefunc ++ 0 ∷ (p.name ++ 0 ∷ []))) → AreLong e p → AreTexts p → HasTexts bytes e p
probe_kept bytes e p is long texts =
    let last = p.name ++ 0 ∷ [] in
    let more = p.probefunc ++ 0 ∷ last in
    probe_texts 0 bytes (p.probemod ++ 0 ∷ more) more last [] e p is refl refl refl long texts

-- the fields of a probe, one after another
pub probe_split : (key b1 b2 b3 b4 : List ℕ) (e : ProbeEntry) (p : Probe) → (field : List ℕ) × BeginsWith key field (44 ∷ b1) × (text_of field ≡ Some p.provider)
    → (field : List ℕ) × BeginsWith b1 field (44 ∷ b2) × (text_of field ≡ Some p.probemod) → (field : List ℕ) × BeginsWith b2 field (44 ∷ b3) × (text_of field ≡ Some p.probefunc)
    → (field : List ℕ) × BeginsWith b3 field (44 ∷ b4) × (text_of field ≡ Some p.name) → AreLong e p → HasTexts key e p
probe_split key b1 b2 b3 b4 e p (x7, f7, provider) (x8, f8, probemod) (x9, f9, probefunc) (x10, f10, name) long =
    let (s7, t7) = own_field x7 p.provider provider in
    let (s8, t8) = own_field x8 p.probemod probemod in
    let (s9, t9) = own_field x9 p.probefunc probefunc in
    let (s10, t10) = own_field x10 p.name name in
    probe_texts 44 key b1 b2 b3 b4 e p (rw s7 at f7.split) (rw s8 at f8.split) (rw s9 at f9.split) (rw s10 at f10.split) long (record { provider = t7; probemod = t8; probefunc = t9; name = t10 })

pub probe_parsed : (key b1 b2 b3 b4 : List ℕ) (e : ProbeEntry) (p : Probe) → (field : List ℕ) × BeginsWith key field (44 ∷ b1) × (text_of field ≡ Some p.provider)
    → (field : List ℕ) × BeginsWith b1 field (44 ∷ b2) × (text_of field ≡ Some p.probemod) → (field : List ℕ) × BeginsWith b2 field (44 ∷ b3) × (text_of field ≡ Some p.probefunc)
    → (field : List ℕ) × BeginsWith b3 field (44 ∷ b4) × (text_of field ≡ Some p.name) → HasTexts key e p → b4 ≡ [] → bytes_eq p.provider (codes "dtrace") ≡ false
    → ReadsProbe key [] (probe_in (key, e))
probe_parsed key b1 b2 b3 b4 e p (x7, f7, provider) (x8, f8, probemod) (x9, f9, probefunc) (x10, f10, name) has none free =
    let two = passes_more key b1 b2 (x7 ∷ []) (x8 ∷ []) (passes_one key x7 b1 f7) (passes_one b1 x8 b2 f8) in
    let three = passes_more key b2 b3 (x7 ∷ x8 ∷ []) (x9 ∷ []) two (passes_one b2 x9 b3 f9) in
    let all = passes_more key b3 b4 (x7 ∷ x8 ∷ x9 ∷ []) (x10 ∷ []) three (passes_one b3 x10 b4 f10) in
    let own : ReadsProbe key [] p = record {
      x7 = x7;
      x8 = x8;
      x9 = x9;
      x10 = x10;
      passes = rw none at all;
      is_provider = provider;
      is_probemod = probemod;
      is_probefunc = probefunc;
      is_name = name;
      unreserved = free;
    } in
    subst (ReadsProbe key []) (sym (probe_is key e p has)) own

-- the fields of a probe, whatever comes after them
pub probe_read : (key rest bytes : List ℕ) (p : Probe) → ReadsProbe key [] p → bytes ≡ key ++ rest → ReadsProbe bytes rest p
probe_read key rest bytes p h is = record {
  x7 = h.x7;
  x8 = h.x8;
  x9 = h.x9;
  x10 = h.x10;
  passes = unit_passes key rest bytes (h.x7 ∷ h.x8 ∷ h.x9 ∷ h.x10 ∷ []) h.passes is;
  is_provider = h.is_provider;
  is_probemod = h.is_probemod;
  is_probefunc = h.is_probefunc;
  is_name = h.is_name;
  unreserved = h.unreserved;
}
