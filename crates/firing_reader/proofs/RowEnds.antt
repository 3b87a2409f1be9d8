-- Where rows end: csv byte by byte.
use Rattle.std.proofs.Common.{◌≡◌, ℕ, Bool, true, false, List, [], ◌∷◌, ◌++◌, Option, Some, None}
use Rattle.std.proofs.Common.{refl, sym, ap, subst, ◌∙◌, append_assoc, inl, inr}
use Rattle.std.specs.Prelude.{◌==◌, ◌||◌, if◌then◌else◌}
use Rattle.std.proofs.lemmas.Bool.{cond_both, Decides.eqb_tells}
use Rattle.std.proofs.lemmas.List.{append-nil}
use Rattle.csv.specs.Machine.{Read, ends_at_end, next_record}
use Rattle.csv.specs.Reading.{default_config, records_next}
use Rattle.csv.specs.declared.parser.State.{State}
use Rattle.csv.specs.declared.parser.State.TheVariants as st
use Rattle.firing_reader.specs.Left.{left_in}
use Rattle.firing_reader.specs.Steps.RowEnds.{RowsEnd, place_after, plain_after}
use Rattle.firing_reader.specs.declared.row_ends.Place.{Place}
use Rattle.firing_reader.specs.declared.row_ends.Place.TheVariants.{Between, Start, Field, Quoted}
use Rattle.firing_reader.specs.declared.row_ends.Place.TheVariants.{Quote}
use Rattle.firing_reader.proofs.Left.{left_more, left_none}

-- csv's state at a place
abbrev pub state_at : Place → State
state_at Between = st.StartRecord
state_at Start = st.StartField
state_at Field = st.InField
state_at Quoted = st.InQuoted
state_at Quote = st.AfterQuote

abbrev left : State → List ℕ → List (List (List ℕ))
left s xs = left_in s (Some xs)

-- the records of bytes that begin within one: its fields so far, and the field that is open
abbrev pub within : State → List (List ℕ) → List ℕ → List ℕ → List (List (List ℕ))
within s fields field xs = records_next left (next_record default_config s fields field xs)

-- between two records there is no field
abbrev pub IsAt : Place → List (List ℕ) → List ℕ → Type 0
IsAt Between fields field = (fields ≡ []) × (field ≡ [])
IsAt Start fields field = Unit {0}
IsAt Field fields field = Unit {0}
IsAt Quoted fields field = Unit {0}
IsAt Quote fields field = Unit {0}

-- after these bytes csv stands at a place, with these records before it
pub record StandsAt (bytes : List ℕ) (place : Place) : Type 0 where
  pub before : List (List (List ℕ))
  pub fields : List (List ℕ)
  pub field : List ℕ
  pub is_at : IsAt place fields field
  pub goes_on : (rest : List ℕ) → left st.StartRecord (bytes ++ rest) ≡ before ++ within (state_at place) fields field rest

-- a byte leads to a place
record Leads (s : State) (fs : List (List ℕ)) (f : List ℕ) (c : ℕ) (place : Place) : Type 0 where
  front : List (List (List ℕ))
  fields : List (List ℕ)
  field : List ℕ
  is_at : IsAt place fields field
  goes_on : (rest : List ℕ) → within s fs f (c ∷ rest) ≡ front ++ within (state_at place) fields field rest

left_within : (s : State) (xs : List ℕ) → ends_at_end s ≡ false → left s xs ≡ within s [] [] xs
left_within s xs between = by (next_record default_config s [] [] xs) refl
  where
    by : (o : Option Read) → next_record default_config s [] [] xs ≡ o → left s xs ≡ records_next left o
    by None e = left_none s xs e
    by (Some q) e = (left_more s xs q between e).0

-- a line feed after a carriage return changes nothing, as between any two records
cr_same : (xs : List ℕ) → next_record default_config st.AfterCr [] [] xs ≡ next_record default_config st.StartRecord [] [] xs
unfolding next_record
cr_same [] = refl
cr_same (c ∷ rest) = by (c == 13) (c == 10) refl refl
  where
    by : (y z : Bool) → (c == 13) ≡ y → (c == 10) ≡ z → next_record default_config st.AfterCr [] [] (c ∷ rest) ≡ next_record default_config st.StartRecord [] [] (c ∷ rest)
    by true true ey ez = rw (ey, ez) refl
    by false true ey ez = rw (ey, ez) refl
    by y false ey ez = rw ez refl

left_cr : (xs : List ℕ) → left st.AfterCr xs ≡ within st.StartRecord [] [] xs
left_cr xs = left_within st.AfterCr xs refl ∙ ap (records_next left) (cr_same xs)

pub left_return : (xs : List ℕ) → left st.AfterCr xs ≡ left st.StartRecord xs
left_return xs = left_cr xs ∙ sym (left_within st.StartRecord xs refl)

in_field_leads : (fs : List (List ℕ)) (f : List ℕ) (c : ℕ) → Leads st.InField fs f c (plain_after c)
unfolding next_record
in_field_leads fs f c = by (c == 44) (c == 13) (c == 10) refl refl refl
  where
    by : (x y z : Bool) → (c == 44) ≡ x → (c == 13) ≡ y → (c == 10) ≡ z → Leads st.InField fs f c (if x then Start else if y || z then Between else Field)
    by true y z ex ey ez = record { front = []; fields = fs ++ f ∷ []; field = []; is_at = tt; goes_on = λ rest. rw ex refl }
    by false true z ex ey ez = record {
      front = (fs ++ f ∷ []) ∷ [];
      fields = [];
      field = [];
      is_at = (refl, refl);
      goes_on = λ rest. rw (ex, ey) (ap (λ (l : List (List (List ℕ))). (fs ++ f ∷ []) ∷ l) (left_cr rest));
    }
    by false false true ex ey ez = record {
      front = (fs ++ f ∷ []) ∷ [];
      fields = [];
      field = [];
      is_at = (refl, refl);
      goes_on = λ rest. rw (ex, ey, ez) (ap (λ (l : List (List (List ℕ))). (fs ++ f ∷ []) ∷ l) (left_within st.StartRecord rest refl));
    }
    by false false false ex ey ez = record { front = []; fields = fs; field = f ++ c ∷ []; is_at = tt; goes_on = λ rest. rw (ex, ey, ez) refl }

-- a state that takes a byte as another does
via : (s t : State) (fs : List (List ℕ)) (f : List ℕ) (c : ℕ) (place : Place) → ((rest : List ℕ) → within s fs f (c ∷ rest) ≡ within t fs f (c ∷ rest)) → Leads t fs f c place → Leads s fs f c place
via s t fs f c place same h = record { front = h.front; fields = h.fields; field = h.field; is_at = h.is_at; goes_on = λ rest. same rest ∙ h.goes_on rest }

start_leads : (fs : List (List ℕ)) (f : List ℕ) (c : ℕ) → Leads st.StartField fs f c (place_after Start c)
unfolding next_record
start_leads fs f c = cond_both (c == 34) Quoted (plain_after c) (Leads st.StartField fs f c)
    (λ e. record { front = []; fields = fs; field = f; is_at = tt; goes_on = λ rest. rw e refl })
    (λ e. via st.StartField st.InField fs f c (plain_after c) (λ rest. rw e refl) (in_field_leads fs f c))

quote_leads : (fs : List (List ℕ)) (f : List ℕ) (c : ℕ) → Leads st.AfterQuote fs f c (place_after Quote c)
unfolding next_record
quote_leads fs f c = cond_both (c == 34) Quoted (plain_after c) (Leads st.AfterQuote fs f c)
    (λ e. record { front = []; fields = fs; field = f ++ c ∷ []; is_at = tt; goes_on = λ rest. rw e refl })
    (λ e. via st.AfterQuote st.InField fs f c (plain_after c) (λ rest. rw e refl) (in_field_leads fs f c))

quoted_leads : (fs : List (List ℕ)) (f : List ℕ) (c : ℕ) → Leads st.InQuoted fs f c (place_after Quoted c)
unfolding next_record
quoted_leads fs f c = cond_both (c == 34) Quote Quoted (Leads st.InQuoted fs f c)
    (λ e. record { front = []; fields = fs; field = f; is_at = tt; goes_on = λ rest. rw e refl })
    (λ e. record { front = []; fields = fs; field = f ++ c ∷ []; is_at = tt; goes_on = λ rest. rw e refl })

-- an end of a line between two records
blank : (c : ℕ) → ((rest : List ℕ) → within st.StartRecord [] [] (c ∷ rest) ≡ within st.StartRecord [] [] rest) → Leads st.StartRecord [] [] c Between
blank c skips = record { front = []; fields = []; field = []; is_at = (refl, refl); goes_on = skips }

between_leads : (c : ℕ) → Leads st.StartRecord [] [] c (place_after Between c)
unfolding next_record
between_leads c = elim (eqb_tells c 13) [
  | inl same ↦ subst (λ (k : ℕ). Leads st.StartRecord [] [] k (place_after Between k)) (sym same.1) (blank 13 (λ rest. refl))
  | inr no_return ↦ elim (eqb_tells c 10) [
    | inl same ↦ subst (λ (k : ℕ). Leads st.StartRecord [] [] k (place_after Between k)) (sym same.1) (blank 10 (λ rest. refl))
    | inr no_feed ↦ let r = no_return.0 in
        let n = no_feed.0 in
        via st.StartRecord st.StartField [] [] c (place_after Start c) (λ rest. rw (r, n) refl) (start_leads [] [] c)
  ]
]

leads : (place : Place) (fs : List (List ℕ)) (f : List ℕ) (c : ℕ) → IsAt place fs f → Leads (state_at place) fs f c (place_after place c)
leads Between fs f c (no_fields, no_field) = rw (no_fields, no_field) (between_leads c)
leads Start fs f c h = start_leads fs f c
leads Field fs f c h = in_field_leads fs f c
leads Quoted fs f c h = quoted_leads fs f c
leads Quote fs f c h = quote_leads fs f c

pub stands_first : StandsAt [] Between
stands_first = record { before = []; fields = []; field = []; is_at = (refl, refl); goes_on = λ rest. left_within st.StartRecord rest refl }

-- one more byte
pub stands_more : (bytes : List ℕ) (place : Place) (c : ℕ) → StandsAt bytes place → StandsAt (bytes ++ c ∷ []) (place_after place c)
stands_more bytes place c h =
    let l = leads place h.fields h.field c h.is_at in
    record {
      before = h.before ++ l.front;
      fields = l.fields;
      field = l.field;
      is_at = l.is_at;
      goes_on = λ rest. rw (append_assoc bytes (c ∷ []) rest, append_assoc h.before l.front (within (state_at (place_after place c)) l.fields l.field rest)) (h.goes_on (c ∷ rest) ∙ ap (λ (x : List (List (List ℕ))). h.before ++ x) (l.goes_on rest));
    }

none : left st.StartRecord [] ≡ []
unfolding next_record
none = left_none st.StartRecord [] refl

-- between two rows, rows end
pub ends_between : (bytes : List ℕ) → StandsAt bytes Between → RowsEnd bytes
ends_between bytes h rest =
    let at : (xs : List ℕ) → left st.StartRecord (bytes ++ xs) ≡ h.before ++ left st.StartRecord xs = λ xs. h.goes_on xs ∙ rw (h.is_at.0, h.is_at.1) (ap (λ (x : List (List (List ℕ))). h.before ++ x) (sym (left_within st.StartRecord xs refl))) in
    let own : left st.StartRecord bytes ≡ h.before = rw (append-nil bytes, none, append-nil h.before) at (at []) in
    at rest ∙ ap (λ (x : List (List (List ℕ))). x ++ left st.StartRecord rest) (sym own)

-- nothing is left of no row
pub ends_nowhere : RowsEnd []
ends_nowhere = ends_between [] stands_first
