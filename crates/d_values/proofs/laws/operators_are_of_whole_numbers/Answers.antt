use Rattle.std.specs.Prelude.{◌≡◌, ℕ, Bool, true, false, ◌&&◌, ◌==◌, if◌then◌else◌, Result, Ok, Err}
use Rattle.std.proofs.Common.{ap, sym, ◌∙◌}
use Rattle.d_values.specs.Numbers.{number_of}
use Rattle.d_values.specs.Words.{divides, narrow, operate}
use Rattle.d_values.specs.declared.arithmetic.OutOfZero.{OutOfZero}
use Rattle.d_values.proofs.Calls.{complements, computed, converted, opposites, orders, shifts}
use Rattle.d_values.proofs.laws.operators_are_of_whole_numbers.Goals as goal

abbrev outcome : Bool → ℕ → Result ℕ OutOfZero
outcome refused n = if refused then Err (record {}) else Ok n

-- what is given where the operator isn't refused
given : (refused : Bool) (n word : ℕ) → outcome refused n ≡ Ok word → n ≡ word
given true n word h = cc
given false n word h = cc

pub returns : goal.returns
returns c = record {
  binary = λ op t a b word sa sb h. ap (number_of t) (sym (given (divides op && (b == 0)) (narrow t (operate op t.signed a b)) word h)) ∙ computed op t a b sa sb;
  shift = shifts;
  opposite = opposites;
  complement = complements;
  order = orders;
  conversion = converted;
}
