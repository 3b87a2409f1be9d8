-- Rows that wait: pieces of bytes that were read apart.
use Rattle.std.proofs.Common.{◌≡◌, ◌<◌, ◌≤◌, ◌+◌, ◌-◌, ◌⊎◌, ℕ, zero, suc, List, [], ◌∷◌, ◌++◌, length, take, drop, get_or, take-append-drop}
use Rattle.std.proofs.Common.{Result, Ok, Err, refl, sym, ap, subst, ◌∙◌, arith, append_assoc}
use Rattle.std.proofs.Common.{inr, inl}
use Rattle.std.specs.declared.alloc.AllocError.{AllocError}
use Rattle.std.specs.Prelude.{IfSome, OnErr, OnOk, option_map, slice_get}
use Rattle.std.proofs.Math.Seq.{take-append_seam}
use Rattle.std.proofs.lemmas.List.{append-nil, length-take}
use Rattle.firing_reader.specs.declared.blocks.Stage.{Stage}
use Rattle.firing_reader.specs.declared.blocks.Stage.TheVariants as stage
use Rattle.firings.specs.declared.firing.Firing.{Firing}
use Rattle.firing_reader.specs.declared.pieces.Piece.{Piece}
use Rattle.firing_reader.specs.Vocabulary.{Memory, TraceFault}
use Rattle.firing_reader.specs.Blocks.{BeginsAtFeed, reads_at}
use Rattle.firing_reader.specs.Plain.{rows_in, with_front}
use Rattle.firing_reader.specs.Pieces.{AreCut, ArePieces, BeginsWithPiece, GoesOn, IsKeptAt}
use Rattle.firing_reader.specs.Pieces.{PassesRows, unread}
use Rattle.firing_reader.specs.Steps.Blocks.{IsFaultOf, IsReadBy}
use Rattle.firing_reader.specs.Steps.Pieces.{Adds, IsAdded}
use Rattle.firings.specs.Firings.{last_number, number_of}
use Rattle.firing_reader.specs.Trace.{rows_of}
use Rattle.firing_reader.proofs.BlockSteps.{last_fault, read_after}
use Rattle.firing_reader.proofs.PlainRows.{goes_first}
use Rattle.firing_reader.proofs.Rows.{rows_first}
use Rattle.firing_reader.proofs.SharedRows.{goes_more, passes_on}
use Rattle.firing_reader.proofs.Written.{rows_moved}

-- ---- pieces

-- a piece that goes after the firings
pub piece_after : (old : List Firing) (bytes : List ℕ) (fs new : List Firing) (count : ℕ) → PassesRows [] bytes fs count → length old + length fs ≤ 1_000_000 → IfSome (option_map number_of (slice_get fs 0)) (λ n. last_number old < n)
    → new ≡ old ++ fs → PassesRows old bytes new count
piece_after old bytes fs new count p few first is =
    let own : rows_of 1 0 p.read.rows ≡ Ok fs = sym (rows_first p.read.rows) ∙ p.read.read in
    record {
      read = record {
        rows = p.read.rows;
        read = rw is (ap (with_front old) (rows_moved (length old + 1) (last_number old) p.read.rows fs own first (omega (arith, few))));
        taken = p.read.taken;
      };
      inside = p.inside;
    }

-- the rows of the first piece, which was passed to its end, and of those after it
pub pieces_after : (old : List Firing) (bytes : List ℕ) (p : Piece) (mid new : List Firing) (count more : ℕ) → BeginsWithPiece bytes p → PassesRows old (take (p.end + 1) bytes) mid count → p.end ≤ count
    → PassesRows mid (drop p.end bytes) new more → PassesRows old bytes new (p.end + more)
pieces_after old bytes p mid new count more b h past rest =
    let short = length-take (p.end + 1) bytes in
    let is : count ≡ p.end = omega (arith, short, h.inside, past) in
    let whole : p.end + 1 ≡ length (take (p.end + 1) bytes) = omega (arith, short, h.inside, past) in
    passes_on old bytes (take (p.end + 1) bytes) (drop p.end bytes) mid new p.end more b.cut (rw is at h) whole rest

-- the first piece, and those after it
pub pieces_cut : (bytes front last : List ℕ) (p : Piece) (ps : List Piece) → AreCut bytes front last → last ≡ drop (length front - 1) bytes → p.end + 1 ≡ length front → PassesRows [] front p.firings p.passed
    → ArePieces ps last → ArePieces (p ∷ ps) bytes
pieces_cut bytes front last p ps c at end piece others =
    let index : length front - 1 ≡ p.end = omega (arith, end) in
    let own : take (p.end + 1) bytes ≡ front = rw (end, c.is_bytes) (take-append_seam front c.after) in
    let rest : drop p.end bytes ≡ last = sym (at ∙ ap (λ (n : ℕ). drop n bytes) index) in
    (record { cut = rw (own, rest) c; piece = rw own piece }, rw rest others)

-- ---- what waits, and what is left

-- what waits begins at a line feed with what is left after it, if what is left does
abbrev pub Leads : List ℕ → Type 0
Leads waiting = (left : List ℕ) → BeginsAtFeed left → BeginsAtFeed (unread waiting left)

feed_leads : (w : List ℕ) → BeginsAtFeed w → Leads w
feed_leads w (after, is) left feed = subst (λ (x : List ℕ). BeginsAtFeed (unread x left)) (sym is) (after ++ drop 1 left, refl)

-- what is read of bytes that wait, after the rows that were added
pub added_after : (r : Result (Unit {0}) TraceFault) (old : List Firing) (w : List ℕ) (mid : List Firing) (y : List ℕ) (new : List Firing) (rest : List ℕ) → 1 ≤ length w → GoesOn old w mid y → IsReadBy r mid y new rest
    → OnOk r (BeginsAtFeed rest) → IsAdded r old w new rest
added_after r old [] mid y new rest some g h feed = absurd (omega (arith, some))
added_after (Ok u) old (b ∷ w) mid y new rest some g h feed = (read_after (Ok u) old (b ∷ w) mid y new rest g h, feed)
added_after (Err e) old (b ∷ w) mid y new rest some g h feed = read_after (Err e) old (b ∷ w) mid y new rest g h

pub adds_leads : (old : List Firing) (w : List ℕ) (new : List Firing) (rest : List ℕ) → Adds old w new rest → Leads rest
adds_leads old [] new rest (same, none) left feed = rw none feed
adds_leads old (b ∷ w) new rest (read, begins) left feed = feed_leads rest begins left feed

unread_feed : (w left : List ℕ) → BeginsAtFeed w → unread w left ≡ w ++ drop 1 left
unread_feed w left (after, is) = subst (λ (x : List ℕ). unread x left ≡ x ++ drop 1 left) (sym is) refl

pub adds_goes : (old : List Firing) (w : List ℕ) (new : List Firing) (rest left : List ℕ) → Adds old w new rest → GoesOn old (unread w left) new (unread rest left)
adds_goes old [] new rest left (same, none) = rw (same, none) (goes_first old left)
adds_goes old (b ∷ w) new rest left (goes, begins) = rw (unread_feed rest left begins) (goes_more old (b ∷ w) new rest (drop 1 left) goes)

-- a fault of what waits, whatever is left
pub fault_waiting : (e : TraceFault) (old : List Firing) (w left : List ℕ) → IsFaultOf e (λ tail. rows_in old (w ++ tail)) → IsFaultOf e (λ tail. rows_in old (unread w left ++ tail))
fault_waiting e old w left (inl memory) = inl memory
fault_waiting e old [] left (inr fault) = inr (λ tail. fault (left ++ tail))
fault_waiting e old (b ∷ w) left (inr fault) = inr (λ tail. ap (λ (l : List ℕ). rows_in old (b ∷ l)) (append_assoc w (drop 1 left) tail) ∙ fault (drop 1 left ++ tail))

-- the same, with nothing more to come
pub fault_last : (e : TraceFault) (old : List Firing) (w left : List ℕ) → IsFaultOf e (λ tail. rows_in old (w ++ tail)) → (e ≡ Memory) ⊎ (rows_in old (unread w left) ≡ Err e)
fault_last e old w left h = last_fault e (rows_in old) (unread w left) (fault_waiting e old w left h)

-- what was left waits, and nothing else does
pub keeps_left : (w left : List ℕ) → length w ≤ 1 → Leads w → BeginsAtFeed left → unread w left ≡ unread left (10 ∷ [])
keeps_left [] left few leads (after, is) = is ∙ sym (ap (λ (x : List ℕ). unread x (10 ∷ [])) is ∙ ap (λ (l : List ℕ). 10 ∷ l) (append-nil after))
keeps_left (b ∷ []) left few leads (after, is) =
    let (rest, own) = leads left (after, is) in
    let head : b ≡ 10 = ap (λ (l : List ℕ). get_or l 0 0) own in
    let first : unread (b ∷ []) left ≡ 10 ∷ after = rw (head, is) refl in
    first ∙ sym (ap (λ (x : List ℕ). unread x (10 ∷ [])) is ∙ ap (λ (l : List ℕ). 10 ∷ l) (append-nil after))
keeps_left (b ∷ c ∷ w) left few leads feed = absurd (omega (arith, few))

-- ---- what a reader keeps

-- more at the end of what is left
pub keeps_more : (s : Stage) (fs : List Firing) (ps : List Piece) (w x more : List ℕ) → IsKeptAt s fs ps w x → IsKeptAt s fs ps w (x ++ more)
keeps_more stage.Header fs ps w x more h = h
keeps_more stage.Rows fs ps w x more ((after, is), h) = ((after ++ more, ap (λ (l : List ℕ). l ++ more) is), h)
keeps_more (stage.Refused e) fs ps w x more h = h

unread_after : (w x more : List ℕ) → BeginsAtFeed x → unread w (x ++ more) ≡ unread w x ++ more
unread_after [] x more feed = refl
unread_after (b ∷ w) x more (after, is) =
    let own : drop 1 (x ++ more) ≡ drop 1 x ++ more = subst (λ (l : List ℕ). drop 1 (l ++ more) ≡ drop 1 l ++ more) (sym is) refl in
    ap (λ (l : List ℕ). b ∷ (w ++ l)) own ∙ ap (λ (l : List ℕ). b ∷ l) (sym (append_assoc w (drop 1 x) more))

unread_more : (s : Stage) (fs : List Firing) (ps : List Piece) (w x more : List ℕ) → IsKeptAt s fs ps w x → unread w (x ++ more) ≡ unread w x ++ more
unread_more stage.Header fs ps w x more (none, empty) = rw empty refl
unread_more stage.Rows fs ps w x more (feed, h) = unread_after w x more feed
unread_more (stage.Refused e) fs ps w x more empty = rw empty refl

pub reads_more : (s : Stage) (fs : List Firing) (ps : List Piece) (w x more rest : List ℕ) → IsKeptAt s fs ps w x → reads_at s fs (unread w (x ++ more) ++ rest) ≡ reads_at s fs (unread w x ++ (more ++ rest))
reads_more s fs ps w x more rest h =
    ap (λ (l : List ℕ). reads_at s fs (l ++ rest)) (unread_more s fs ps w x more h) ∙ ap (reads_at s fs) (append_assoc (unread w x) more rest)

-- a front of what is left
pub keeps_front : (s : Stage) (fs : List Firing) (ps : List Piece) (w x : List ℕ) (at : ℕ) → (0 < length x → 0 < at) → IsKeptAt s fs ps w x → IsKeptAt s fs ps w (take at x)
keeps_front stage.Header fs ps w x at some h = h
keeps_front stage.Rows fs ps w x zero some ((after, is), h) = absurd (omega (arith, some (omega (arith, ap length is))))
keeps_front stage.Rows fs ps w x (suc at) some ((after, is), h) = ((take at after, ap (take (suc at)) is), h)
keeps_front (stage.Refused e) fs ps w x at some h = h

pub row_left : (s : Stage) (fs : List Firing) (ps : List Piece) (w x : List ℕ) (at : ℕ) (rest : List ℕ) → (0 < length x → 0 < at) → IsKeptAt s fs ps w x → reads_at s fs (unread w (take at x) ++ (drop at x ++ rest)) ≡ reads_at s fs (unread w x ++ rest)
row_left s fs ps w x at rest some h =
    sym (reads_more s fs ps w (take at x) (drop at x) rest (keeps_front s fs ps w x at some h)) ∙ ap (λ (l : List ℕ). reads_at s fs (unread w l ++ rest)) (take-append-drop at x)

-- ---- a block that was added to what is left

pub added_kept : (r : Result (Unit {0}) AllocError) (s : Stage) (fs : List Firing) (ps : List Piece) (w x block y : List ℕ) → BeginsAtFeed block
    → OnOk r ((bytes : List ℕ) → block ≡ 10 ∷ bytes → y ≡ x ++ bytes) → OnErr r (y ≡ x) → IsKeptAt s fs ps w x → IsKeptAt s fs ps w y
added_kept (Ok _) s fs ps w x block y (bytes, is) added refused h = subst (IsKeptAt s fs ps w) (sym (added bytes is)) (keeps_more s fs ps w x bytes h)
added_kept (Err e) s fs ps w x block y feed added refused h = subst (IsKeptAt s fs ps w) (sym refused) h

pub added_reads : (r : Result (Unit {0}) AllocError) (s : Stage) (fs : List Firing) (ps : List Piece) (w x block y : List ℕ) → IsKeptAt s fs ps w x → OnOk r ((bytes : List ℕ) → block ≡ 10 ∷ bytes → y ≡ x ++ bytes)
    → OnOk r ((bytes rest : List ℕ) → block ≡ 10 ∷ bytes → reads_at s fs (unread w y ++ rest) ≡ reads_at s fs (unread w x ++ (bytes ++ rest)))
added_reads (Ok _) s fs ps w x block y h added = λ bytes rest is. ap (λ (l : List ℕ). reads_at s fs (unread w l ++ rest)) (added bytes is) ∙ reads_more s fs ps w x bytes rest h
added_reads (Err e) s fs ps w x block y h added = tt

pub same_unread : (r : Result (Unit {0}) AllocError) (w x y : List ℕ) → OnErr r (y ≡ x) → OnErr r (unread w y ≡ unread w x)
same_unread (Ok _) w x y refused = tt
same_unread (Err e) w x y refused = ap (unread w) refused
