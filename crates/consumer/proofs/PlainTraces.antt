-- A trace's fault, by its definition, is never want of memory.
use Rattle.std.proofs.Common.{◌≡◌, ◌≢◌, ℕ, ◌+◌, Bool, true, false, cond, ◌==◌, nat_lt, List}
use Rattle.std.proofs.Common.{[], ◌∷◌, Option, Some, None, length}
use Rattle.std.specs.Prelude.{Result, Ok, Err, codes, not, ok_or}
use Rattle.std.specs.Str.{bytes_eq}
use Rattle.firing_reader.specs.Column.{Argument, Column, Content, Whole, Words, columns, fault_of}
use Rattle.firing_reader.specs.Column.{field, value_of}
use Rattle.firing_reader.specs.Row.{◌>>=◌, columns_at, number_in, numbers_at}
use Rattle.firing_reader.specs.Trace.{checked, is_header, next_of, rows_of, trace_in, trace_of}
use Rattle.firing_reader.specs.declared.fault.TraceFault.{TraceFault}
use Rattle.firing_reader.specs.declared.fault.TraceFault.TheVariants.{Header, Columns, Order}
use Rattle.firing_reader.specs.declared.fault.TraceFault.TheVariants.{Reserved, TooMany, Memory}
use Rattle.firings.specs.declared.firing.Firing.{Firing}

-- no want of memory is what it returns
abbrev Sound : {A : Type 0} → Result A TraceFault → Type 0
Sound (Ok x) = Unit {0}
Sound (Err e) = e ≢ Memory

bind : {A B : Type 0} (r : Result A TraceFault) (f : A → Result B TraceFault) → Sound r → ((x : A) → Sound (f x)) → Sound (r >>= f)
bind (Ok x) f first next = next x
bind (Err e) f first next = first

or_sound : {A : Type 0} (o : Option A) (e : TraceFault) → e ≢ Memory → Sound (ok_or o e)
or_sound None e h = h
or_sound (Some x) e h = tt

test_sound : {A : Type 0} (b : Bool) (x y : Result A TraceFault) → Sound x → Sound y → Sound (cond b x y)
test_sound true x y h k = h
test_sound false x y h k = k

fault_sound : (content : Content) (row column : ℕ) → fault_of content row column ≢ Memory
fault_sound (Whole least most) row column e = cc
fault_sound Argument row column e = cc
fault_sound Words row column e = cc

numbers_sound : (row : ℕ) (cs : List Column) (fields : List (List ℕ)) → Sound (numbers_at row cs fields)
unfolding numbers_at number_in
numbers_sound row [] fields = tt
numbers_sound row ((place, name, content) ∷ cs) fields =
    bind (ok_or (value_of content (field fields place)) (fault_of content row place)) _ (or_sound _ _ (fault_sound content row place))
    (λ n. bind (numbers_at row cs fields) _ (numbers_sound row cs fields) (λ ns. tt))

checked_sound : (row last : ℕ) (f : Firing) → Sound (checked row last f)
checked_sound row last f =
    test_sound (bytes_eq f.provider (codes "dtrace")) (Err (Reserved row)) _ (λ e. cc) (test_sound (nat_lt last f.number) (Ok f) (Err (Order row)) tt (λ e. cc))

next_sound : (row last : ℕ) (fields : List (List ℕ)) → Sound (next_of row last fields)
unfolding next_of
next_sound row last fields =
    test_sound (nat_lt 1000000 row) (Err TooMany) _ (λ e. cc)
    (test_sound (not (length fields == 20)) (Err (Columns row)) _ (λ e. cc)
    (bind (columns_at row fields) (checked row last) (bind (numbers_at row columns fields) _ (numbers_sound row columns fields) (λ ns. tt)) (checked_sound row last)))

rows_sound : (row last : ℕ) (rows : List (List (List ℕ))) → Sound (rows_of row last rows)
unfolding rows_of
rows_sound row last [] = tt
rows_sound row last (fields ∷ more) =
    bind (next_of row last fields) _ (next_sound row last fields)
    (λ f. bind (rows_of (row + 1) f.number more) _ (rows_sound (row + 1) f.number more) (λ fs. tt))

in_sound : (records : List (List (List ℕ))) → Sound (trace_in records)
unfolding trace_in
in_sound [] = λ e. cc
in_sound (first ∷ rows) = test_sound (is_header first) (rows_of 1 0 rows) (Err Header) (rows_sound 1 0 rows) (λ e. cc)

refused : (r : Result (List Firing) TraceFault) → Sound r → r ≡ Err Memory → ⊥
refused (Ok fs) sound e = cc
refused (Err f) sound e = sound cc

pub never_memory : (bytes : List ℕ) → trace_of bytes ≡ Err Memory → ⊥
never_memory bytes e = refused (trace_of bytes) (in_sound _) e
