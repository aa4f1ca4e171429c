-- No second answer: a digest of which each bit is said is said whole.
use Rattle.std.specs.Prelude.{Bool, ◌≡◌, ℕ, ◌^◌, ◌<◌}
use Rattle.std.proofs.Common.{sym, ap, ◌∙◌}
use Rattle.bits.proofs.Same.{same_number}
use Rattle.rule_digest.specs.declared.RuleSetDigest.{RuleSetDigest}
use Rattle.rule_digest.specs.Rule.{RuleSays}

pub one_rule_digest : (d e : RuleSetDigest) (f : ℕ → Bool) → d.mask < 2 ^ 64 → e.mask < 2 ^ 64 → RuleSays d f → RuleSays e f → d ≡ e
one_rule_digest d e f u v s t =
    ap (λ (m : ℕ). record { mask = m }) (same_number 64 d.mask e.mask u v (λ k m. s k m ∙ sym (t k m)))
