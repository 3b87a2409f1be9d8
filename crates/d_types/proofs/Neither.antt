-- Where neither of two tests is true.
use Rattle.std.proofs.Common.{◌≡◌, Bool, true, false, ◌||◌, refl}

pub left : (a b : Bool) → (a || b) ≡ false → a ≡ false
left true b e = cc
left false b e = refl

pub right : (a b : Bool) → (a || b) ≡ false → b ≡ false
right true b e = cc
right false b e = e
