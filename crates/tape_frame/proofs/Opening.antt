-- What `starts_with` asks of four bytes that aren't 0 is what `opens` asks: past the end `opens` reads 0. Assumes nothing.
use Rattle.std.specs.Prelude.{ℕ, ◌≡◌, List, [], ◌∷◌, eqb, refl}
use Rattle.std.specs.List.{starts_with}
use Rattle.std.proofs.Math.Bool.{and-false}
use Rattle.std.proofs.Common.{arith}
use Rattle.std.proofs.lemmas.Bool.Decides.{nat_tests}
use Rattle.tape_frame.specs.Frame.{opens, gsub, gpos}

pub opens_gsub : (b : List ℕ) → opens b gsub ≡ starts_with eqb b gsub
opens_gsub [] = refl
opens_gsub (c ∷ []) = simp and-false
opens_gsub (c ∷ d ∷ []) = simp and-false
opens_gsub (c ∷ d ∷ e ∷ []) = simp and-false
opens_gsub (c ∷ d ∷ e ∷ f ∷ rest) = grind (arith, nat_tests)

pub opens_gpos : (b : List ℕ) → opens b gpos ≡ starts_with eqb b gpos
opens_gpos [] = refl
opens_gpos (c ∷ []) = simp and-false
opens_gpos (c ∷ d ∷ []) = simp and-false
opens_gpos (c ∷ d ∷ e ∷ []) = simp and-false
opens_gpos (c ∷ d ∷ e ∷ f ∷ rest) = grind (arith, nat_tests)
