-- Each reason is a reason for the answer given; and what it says of the lookup and the glyph is so. Test by test, as the definitions go.
use Rattle.std.specs.Prelude.{ℕ, ◌/◌, ◌%◌, ◌^◌, ◌≡◌, refl, List, [], Bool, true, false, ◌&&◌, ◌||◌}
use Rattle.std.proofs.Common.{sym, arith}
use Rattle.std.proofs.Math.Bool.{not, cond}
use borrow.Author.Tests.{eq-eqb, ne_eqb, eqb-true, not-true, not-false}
use Rattle.std.proofs.Math.Dec.{eqb}
use Rattle.std.specs.Int.Bits.{bit_and}
use Rattle.bits.specs.Bits.{bit}
use Rattle.bits.proofs.Laws.{and_left, and_right, neither_left, neither_right}
use Rattle.glyph.specs.declared.Glyph.{Glyph}
use Rattle.glyph.specs.Sets.{in_set}
use Rattle.verdict.specs.declared.Matcher.{Matcher}
use Rattle.verdict.specs.declared.MaySkip.{MaySkip}
use Rattle.verdict.specs.declared.MayMatch.{MayMatch}
use Rattle.verdict.specs.declared.Test.{Test}
use Rattle.verdict.specs.declared.Test.TheVariants.{Equal, Any, Nothing}
use Rattle.verdict.specs.declared.Sign.{Sign}
use Rattle.verdict.specs.Verdict.{is_mark, uses_set, set_named, class_asked, class_of, other_mark, skip_yes, ignorable}
use Rattle.verdict.specs.Verdict.{skip_of, ruled_out, yes_if, value_by, value_of, match_of, verdict, verdict_of}
use Rattle.explain_glyph.specs.declared.SkipReason.{SkipReason}
use Rattle.explain_glyph.specs.declared.SkipReason.TheVariants.{IgnoredBase, IgnoredLigature, IgnoredMark, OutsideSet, OtherClass}
use Rattle.explain_glyph.specs.declared.SkipReason.TheVariants.{DefaultIgnorable, KeptZwnj, KeptZwj, KeptHidden, NotIgnorable}
use Rattle.explain_glyph.specs.declared.MatchReason.{MatchReason}
use Rattle.explain_glyph.specs.declared.MatchReason.TheVariants.{NoMask, OtherSyllable, OtherId, EqualId, AnyId, NoTest}
use Rattle.explain_glyph.specs.Reason.{yes_reason, no_reason, skip_reason, skip_for, value_reason, match_reason, match_for}

-- ---- a reason for the answer

yes_by : (a b c d : Bool) → skip_for (cond a IgnoredBase (cond b IgnoredLigature (cond c IgnoredMark (cond d OutsideSet OtherClass)))) ≡ MaySkip.Yes
yes_by true b c d = refl
yes_by false true c d = refl
yes_by false false true d = refl
yes_by false false false true = refl
yes_by false false false false = refl

no_by : (a b c : Bool) → skip_for (cond a (cond b KeptZwnj (cond c KeptZwj KeptHidden)) NotIgnorable) ≡ MaySkip.No
no_by true true c = refl
no_by true false true = refl
no_by true false false = refl
no_by false b c = refl

skip_by : (y i : Bool) (r s : SkipReason) → skip_for r ≡ MaySkip.Yes → skip_for s ≡ MaySkip.No
    → skip_for (cond y r (cond i DefaultIgnorable s)) ≡ cond y MaySkip.Yes (cond i MaySkip.Maybe MaySkip.No)
skip_by true i r s e f = e
skip_by false true r s e f = refl
skip_by false false r s e f = f

pub skip_told : (m : Matcher) (sets : List ℕ) (g : Glyph) → skip_for (skip_reason m sets g) ≡ skip_of m sets g
unfolding skip_reason yes_reason no_reason skip_of
skip_told m sets g =
    skip_by (skip_yes m sets g) (ignorable m g) (yes_reason m.props g.props) (no_reason m g.flags)
    (yes_by (bit 1 g.props && bit 1 m.props) (bit 2 g.props && bit 2 m.props) (bit 3 g.props && bit 3 m.props) (uses_set m.props))
    (no_by (bit 0 g.flags) (bit 1 g.flags && not m.zwnj) (bit 2 g.flags && not m.zwj))

match_by : (a b : Bool) (r : MatchReason) (x : MayMatch) → match_for r ≡ x
    → match_for (cond a NoMask (cond b OtherSyllable r)) ≡ cond (a || b) MayMatch.No x
match_by true b r x e = refl
match_by false true r x e = refl
match_by false false r x e = e

equal_by : (b : Bool) → match_for (cond b EqualId OtherId) ≡ yes_if b
equal_by true = refl
equal_by false = refl

value_by_lem : (t : Test) (value : ℕ) (g : Glyph) → match_for (value_reason t value g.id) ≡ value_by t [] value g
unfolding value_by
value_by_lem Equal value g = equal_by (eqb g.id value)
value_by_lem Any value g = refl
value_by_lem Nothing value g = refl

pub match_told : (m : Matcher) (sign : Sign) (syllable : ℕ) (g : Glyph) → match_for (match_reason m sign syllable g)
    ≡ match_of m (value_of sign []) syllable g
unfolding match_reason match_of ruled_out
match_told m sign syllable g =
    match_by (eqb (bit_and g.mask m.mask) 0) ((m.syllabic && not (eqb syllable 0)) && not (eqb syllable g.syllable))
    (value_reason sign.test sign.value g.id) (value_by sign.test [] sign.value g) (value_by_lem sign.test sign.value g)

-- the two reasons tell the verdict
pub verdict_told : (m : Matcher) (sign : Sign) (syllable : ℕ) (sets : List ℕ) (g : Glyph)
    → verdict_of (skip_for (skip_reason m sets g)) (match_for (match_reason m sign syllable g)) ≡ verdict m (value_of sign []) syllable sets g
unfolding verdict
verdict_told m sign syllable sets g = rw (skip_told m sets g, match_told m sign syllable g)

-- ---- what a reason says

abbrev pub SkipSays : Matcher → List ℕ → Glyph → SkipReason → Type 0
SkipSays m sets g IgnoredBase = (bit 1 g.props ≡ true) × (bit 1 m.props ≡ true)
SkipSays m sets g IgnoredLigature = (bit 2 g.props ≡ true) × (bit 2 m.props ≡ true)
SkipSays m sets g IgnoredMark = (bit 3 g.props ≡ true) × (bit 3 m.props ≡ true)
SkipSays m sets g OutsideSet =
    (is_mark g.props ≡ true) × (uses_set m.props ≡ true) × (in_set sets (set_named m.props) g.id ≡ false)
SkipSays m sets g OtherClass =
    (is_mark g.props ≡ true) × (uses_set m.props ≡ false) × (eqb (class_asked m.props) 0 ≡ false)
    × (eqb (class_asked m.props) (class_of g.props) ≡ false)
SkipSays m sets g DefaultIgnorable = ignorable m g ≡ true
SkipSays m sets g KeptZwnj = (bit 0 g.flags ≡ true) × (bit 1 g.flags ≡ true) × (m.zwnj ≡ false)
SkipSays m sets g KeptZwj = (bit 0 g.flags ≡ true) × (bit 2 g.flags ≡ true) × (m.zwj ≡ false)
SkipSays m sets g KeptHidden = (bit 0 g.flags ≡ true) × (bit 3 g.flags ≡ true) × (m.hidden ≡ false)
SkipSays m sets g NotIgnorable = bit 0 g.flags ≡ false

-- of a choice, whichever it is
pick : {A : Type 0} (P : A → Type 0) (b : Bool) (x y : A) → (b ≡ true → P x) → (b ≡ false → P y) → P (cond b x y)
pick P true x y t f = t refl
pick P false x y t f = f refl

-- nothing was ignored, so it is the last
last_of : (a b c d : Bool) → a ≡ false → b ≡ false → c ≡ false → ((a || b) || c) || d ≡ true → d ≡ true
last_of a b c d ea eb ec e = rw (ea, eb, ec) at e

module _ (m : Matcher) (sets : List ℕ) (g : Glyph) where
  abbrev Says : SkipReason → Type 0
  Says = SkipSays m sets g

  outside : bit 3 g.props ≡ true → uses_set m.props ≡ true → other_mark m.props sets g.props g.id ≡ true → Says OutsideSet
  outside k u e =
      let o : not (in_set sets (set_named m.props) g.id) ≡ true = rw (k, u) at e in
      (k, u, not-true (in_set sets (set_named m.props) g.id) o)

  other : bit 3 g.props ≡ true → uses_set m.props ≡ false → other_mark m.props sets g.props g.id ≡ true → Says OtherClass
  other k u e =
      let z = eqb (class_asked m.props) 0 in
      let s = eqb (class_asked m.props) (class_of g.props) in
      let o : (not z && not s) ≡ true = rw (k, u) at e in
      (k, u, not-true z (and_left (not z) (not s) o), not-true s (and_right (not z) (not s) o))

  yes_says : skip_yes m sets g ≡ true → Says (yes_reason m.props g.props)
  unfolding skip_yes yes_reason
  yes_says e =
      let p = g.props in
      let a = m.props in
      let marks = cond (uses_set a) OutsideSet OtherClass in
      pick Says (bit 1 p && bit 1 a) IgnoredBase (cond (bit 2 p && bit 2 a) IgnoredLigature (cond (bit 3 p && bit 3 a) IgnoredMark marks))
      (λ t. (and_left (bit 1 p) (bit 1 a) t, and_right (bit 1 p) (bit 1 a) t))
      (λ n₁.
      pick Says (bit 2 p && bit 2 a) IgnoredLigature (cond (bit 3 p && bit 3 a) IgnoredMark marks)
      (λ t. (and_left (bit 2 p) (bit 2 a) t, and_right (bit 2 p) (bit 2 a) t))
      (λ n₂.
      pick Says (bit 3 p && bit 3 a) IgnoredMark marks
      (λ t. (and_left (bit 3 p) (bit 3 a) t, and_right (bit 3 p) (bit 3 a) t))
      (λ n₃.
      let o = last_of (bit 1 p && bit 1 a) (bit 2 p && bit 2 a) (bit 3 p && bit 3 a) (other_mark a sets p g.id) n₁ n₂ n₃ e in
      let k = and_left (is_mark p) (cond (uses_set a) (not (in_set sets (set_named a) g.id))
      (not (eqb (class_asked a) 0) && not (eqb (class_asked a) (class_of p)))) o in
      pick Says (uses_set a) OutsideSet OtherClass (λ u. outside k u o) (λ u. other k u o))))

  -- a kind that isn't kept leaves the next
  not_kept : (z b : Bool) → (b && not z) ≡ false → (z || not b) ≡ true
  not_kept true b e = refl
  not_kept false true e = sym e
  not_kept false false e = refl

  hidden_left : (a b c d h x : Bool) → a ≡ true → (b && not c) ≡ false → (d && not h) ≡ false
      → ((a && (c || not b)) && (h || not d)) && x ≡ false → x ≡ false
  hidden_left a b c d h x ea eb ed e = rw (ea, not_kept c b eb, not_kept h d ed) at e

  no_says : ignorable m g ≡ false → Says (no_reason m g.flags)
  unfolding ignorable no_reason
  no_says e =
      let f = g.flags in
      let kept = cond (bit 2 f && not m.zwj) KeptZwj KeptHidden in
      pick Says (bit 0 f) (cond (bit 1 f && not m.zwnj) KeptZwnj kept) NotIgnorable
      (λ i.
      pick Says (bit 1 f && not m.zwnj) KeptZwnj kept
      (λ t. (i, and_left (bit 1 f) (not m.zwnj) t, not-true m.zwnj (and_right (bit 1 f) (not m.zwnj) t)))
      (λ n₁.
      pick Says (bit 2 f && not m.zwj) KeptZwj KeptHidden
      (λ t. (i, and_left (bit 2 f) (not m.zwj) t, not-true m.zwj (and_right (bit 2 f) (not m.zwj) t)))
      (λ n₂.
      let x = hidden_left (bit 0 f) (bit 1 f) m.zwnj (bit 2 f) m.zwj (m.hidden || not (bit 3 f)) i n₁ n₂ e in
      (i, not-false (bit 3 f) (neither_right m.hidden (not (bit 3 f)) x), neither_left m.hidden (not (bit 3 f)) x))))
      (λ n. n)

  pub skip_says : SkipSays m sets g (skip_reason m sets g)
  unfolding skip_reason
  skip_says =
      pick Says (skip_yes m sets g) (yes_reason m.props g.props) (cond (ignorable m g) DefaultIgnorable (no_reason m g.flags))
      yes_says
      (λ n. pick Says (ignorable m g) DefaultIgnorable (no_reason m g.flags) (λ i. i) no_says)

abbrev pub MatchSays : Matcher → Sign → ℕ → Glyph → MatchReason → Type 0
MatchSays m sign syllable g NoMask = bit_and g.mask m.mask ≡ 0
MatchSays m sign syllable g OtherSyllable = (m.syllabic ≡ true) × (eqb syllable 0 ≡ false) × (eqb syllable g.syllable ≡ false)
MatchSays m sign syllable g OtherId = (sign.test ≡ Equal) × (eqb g.id sign.value ≡ false)
MatchSays m sign syllable g EqualId = (sign.test ≡ Equal) × (g.id ≡ sign.value)
MatchSays m sign syllable g AnyId = sign.test ≡ Any
MatchSays m sign syllable g NoTest = sign.test ≡ Nothing

module _ (m : Matcher) (sign : Sign) (syllable : ℕ) (g : Glyph) where
  abbrev MSays : MatchReason → Type 0
  MSays = MatchSays m sign syllable g

  value_says : (t : Test) → sign.test ≡ t → MSays (value_reason t sign.value g.id)
  value_says Equal e =
      pick MSays (eqb g.id sign.value) EqualId OtherId (λ q. (e, eqb-true g.id sign.value q)) (λ q. (e, q))
  value_says Any e = e
  value_says Nothing e = e

  pub match_says : MatchSays m sign syllable g (match_reason m sign syllable g)
  unfolding match_reason
  match_says =
      let z = eqb syllable 0 in
      let s = eqb syllable g.syllable in
      let value = value_reason sign.test sign.value g.id in
      pick MSays (eqb (bit_and g.mask m.mask) 0) NoMask (cond ((m.syllabic && not z) && not s) OtherSyllable value)
      (λ q. eqb-true (bit_and g.mask m.mask) 0 q)
      (λ n.
      pick MSays ((m.syllabic && not z) && not s) OtherSyllable value
      (λ q.
      let front = and_left (m.syllabic && not z) (not s) q in (
        and_left m.syllabic (not z) front,
        not-true z (and_right m.syllabic (not z) front),
        not-true s (and_right (m.syllabic && not z) (not s) q),
      ))
      (λ k. value_says sign.test refl))

-- ---- the lowest bit, as the code tests it

pub odd_bit : (n : ℕ) → n % 2 ≡ 1 → bit 0 n ≡ true
odd_bit n e = eq-eqb (n / 2 ^ 0 % 2) 1 (omega arith)

pub even_bit : (n : ℕ) → (n % 2 ≡ 1 → ⊥) → bit 0 n ≡ false
even_bit n e = ne_eqb (n / 2 ^ 0 % 2) 1 (λ z. e (omega arith))
