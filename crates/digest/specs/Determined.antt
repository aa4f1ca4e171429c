-- No second answer: a digest of which each bit is said is said whole.
use Rattle.std.specs.Prelude.{◌≡◌, ℕ, ◌^◌, ◌<◌, List, length, slice_index}
use Rattle.std.proofs.Common.{sym, ap, ◌∙◌, arith, ext_get_or}
use Rattle.bits.proofs.Same.{same_number}
use Rattle.digest.specs.declared.SetDigest.{SetDigest}
use Rattle.digest.specs.Digest.{Bits, Says}

-- what the type holds: three masks of 64 bits
pub record ThreeMasks (d : SetDigest) : Type 0 where
  pub three : length d.masks ≡ 3
  pub fits : (i : ℕ) → i < 3 → slice_index d.masks i < 2 ^ 64

pub one_digest : (d e : SetDigest) (f : Bits) → ThreeMasks d → ThreeMasks e → Says d f → Says e f → d ≡ e
one_digest d e f u v s t =
    ap (λ (ms : List ℕ). record { masks = ms })
    (ext_get_or 0 d.masks e.masks (u.three ∙ sym v.three)
    (λ i h.
    let l : i < 3 = (let n = u.three in omega arith) in
    same_number 64 (slice_index d.masks i) (slice_index e.masks i) (u.fits i l) (v.fits i l) (λ k m. s i k l m ∙ sym (t i k l m))))
