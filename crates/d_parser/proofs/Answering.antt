-- The script of all tokens, and no other.
use Rattle.std.proofs.Common.{List, Option, Some, Result, Ok, Err, subst}
use Rattle.std.specs.Prelude.{IfOk, ℕ, ◌≤◌, length}
use Rattle.d_parser.specs.Limits.{OnlyLimits}
use Rattle.d_parser.specs.Sizes.{IsWithin}
use Rattle.d_parser.specs.declared.fault.ParseFault.TheVariants as faults
use Rattle.d_lexer.specs.declared.token.Token.{Token}
use Rattle.d_parser.specs.declared.fault.ParseFault.{ParseFault}
use Rattle.d_parser.specs.declared.tree.Script.{Script}
use Rattle.d_parser.specs.Tree.{ItemTree, script_of}
use Rattle.d_parser.specs.Script.{IsScript}
use Rattle.d_parser.specs.Reading.{Gives}
use Rattle.d_parser.specs.Steps.ReadingScripts.{script_reader}
use Rattle.d_parser.proofs.Sound.{IfSome}
use Rattle.d_parser.proofs.SoundScripts.{script_sound}
use Rattle.d_parser.proofs.CompleteScripts.{script_complete}
use Rattle.d_parser.proofs.Counts.{script_within}
use Rattle.d_parser.proofs.Deep.{deep_is, is_deep_of}

pub found_of : (r : Result Script ParseFault) (ts : List Token) → Gives script_of r (script_reader ts) → IfOk r (λ s. IsScript (script_of s) ts)
found_of (Ok s) ts h = subst (λ (o : Option (List ItemTree)). IfSome (λ all. IsScript all ts) o) h (script_sound ts)
found_of (Err e) ts h = tt

pub only_of : (r : Result Script ParseFault) (ts : List Token) → Gives script_of r (script_reader ts) → (s : List ItemTree) → IsScript s ts → Gives script_of r (Some s)
only_of r ts h s k = subst (λ (o : Option (List ItemTree)). Gives script_of r o) (script_complete s ts k) h

pub passed_of : (r : Result Script ParseFault) (ts : List Token) → Gives script_of r (script_reader ts) → OnlyLimits ts r
passed_of (Ok s) ts h = tt
passed_of (Err faults.TooDeep) ts h = absurd h
passed_of (Err faults.TooManyClauses) ts h = absurd h
passed_of (Err (faults.Syntax line)) ts h = tt
passed_of (Err faults.Memory) ts h = tt

pub few_of : (r : Result Script ParseFault) (ts : List Token) (n : ℕ) → length ts ≤ n → Gives script_of r (script_reader ts) → IfOk r (λ s. IsWithin n (script_of s))
few_of (Ok s) ts n le h = script_within (script_of s) ts n le (found_of (Ok s) ts h)
few_of (Err e) ts n le h = tt

pub ruleset whole_script = (found_of, only_of, passed_of, deep_is, is_deep_of)
