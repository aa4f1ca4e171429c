-- Demand 2 holds for any judge and any rule. By induction on the values: each walk's answer is what walk's `Means` says it is.
use Rattle.std.specs.Prelude.{ℕ, ◌≡◌, Bool, false, ◌↔◌, ◌⊎◌}
use Rattle.std.proofs.Math.Path.{refl, ap}
use Rattle.std.proofs.Common.{sym, ◌∙◌, subst, true≢false, inl, inr}
use mathlib.Core.List.{List, [], ◌∷◌}
use Rattle.std.proofs.Math.Bool.{true, cond}
use Rattle.verdict.specs.declared.Verdict.{Verdict}
use Rattle.walk.specs.declared.Walked.{Walked}
use Rattle.walk.specs.declared.Walked.TheVariants.{Found, Stopped, RanOut}
use Rattle.walk.specs.Laws.{walk_found, walk_stopped, walk_ran_out}
use Rattle.walk.specs.Backward.{back_found, back_stopped, back_ran_out}
use Rattle.matching.specs.Take.{Way, ahead, behind, walk_by, past, Outcome, taken, lost, unlike, having, on_walked, takes}
use Rattle.matching.specs.Matchers.{anywhere}
use Rattle.matching.specs.Demand2.{Takes, Fails, Accepts, no_value, more, Loses, fails, fails_later, TurnsDown, turned, turned_later, Demand2}

-- ---- one walk

walk_takes : (way : Way) (v : ℕ → Verdict) (p q : ℕ) → (walk_by way v p ≡ Found q) ↔ Takes way v p q
walk_takes (ahead len) v p q = walk_found v len p q
walk_takes behind v p q = back_found v p q

walk_stops : (way : Way) (v : ℕ → Verdict) (p extent : ℕ) → walk_by way v p ≡ Stopped extent → Fails way v p extent
walk_stops (ahead len) v p extent e = inl ((walk_stopped v len p extent).0 e)
walk_stops behind v p extent e = inl ((back_stopped v p extent).0 e)

walk_runs_out : (way : Way) (v : ℕ → Verdict) (p extent : ℕ) → walk_by way v p ≡ RanOut extent → Fails way v p extent
walk_runs_out (ahead len) v p extent e = inr ((walk_ran_out v len p extent).0 e)
walk_runs_out behind v p extent e = inr ((back_ran_out v p extent).0 e)

walk_fails : (way : Way) (v : ℕ → Verdict) (p extent : ℕ) → Fails way v p extent
    → (walk_by way v p ≡ Stopped extent) ⊎ (walk_by way v p ≡ RanOut extent)
walk_fails (ahead len) v p extent (inl f) = inl ((walk_stopped v len p extent).1 f)
walk_fails (ahead len) v p extent (inr f) = inr ((walk_ran_out v len p extent).1 f)
walk_fails behind v p extent (inl f) = inl ((back_stopped v p extent).1 f)
walk_fails behind v p extent (inr f) = inr ((back_ran_out v p extent).1 f)

module _ {X : Type 0} (way : Way) (v : X → ℕ → Verdict) (ok : ℕ → Bool) where
  -- what an outcome says
  abbrev Says : ℕ → List X → Outcome → Type 0
  Says p xs (taken places) = Accepts way v ok p xs places
  Says p xs (lost extent) = Loses way v ok p xs extent
  Says p xs unlike = TurnsDown way v ok p xs

  -- a place taken before
  says_more : (p : ℕ) (x : X) (q : ℕ) (xs : List X) (o : Outcome) → Takes way (v x) p q → ok q ≡ true → Says (past way q) xs o
      → Says p (x ∷ xs) (having (q ∷ []) o)
  says_more p x q xs (taken places) t k s = more t k s
  says_more p x q xs (lost extent) t k s = fails_later t k s
  says_more p x q xs unlike t k s = turned_later t k s

  by_rule : (p : ℕ) (x : X) (q : ℕ) (xs : List X) (b : Bool) (o : Outcome) → ok q ≡ b → Takes way (v x) p q → Says (past way q) xs o
      → Says p (x ∷ xs) (cond b (having (q ∷ []) o) unlike)
  by_rule p x q xs true o k t s = says_more p x q xs o t k s
  by_rule p x q xs false o k t s = turned t k

  by_walk : (p : ℕ) (x : X) (xs : List X) (w : Walked) → walk_by way (v x) p ≡ w → ((q : ℕ) → Says (past way q) xs (takes way v ok (past way q) xs))
      → Says p (x ∷ xs) (on_walked ok w (λ q. takes way v ok (past way q) xs))
  by_walk p x xs (Found q) e s = by_rule p x q xs (ok q) (takes way v ok (past way q) xs) refl ((walk_takes way (v x) p q).0 e) (s q)
  by_walk p x xs (Stopped extent) e s = fails (walk_stops way (v x) p extent e)
  by_walk p x xs (RanOut extent) e s = fails (walk_runs_out way (v x) p extent e)

  sound : (p : ℕ) (xs : List X) → Says p xs (takes way v ok p xs)
  unfolding takes
  sound p [] = no_value
  sound p (x ∷ xs) = by_walk p x xs (walk_by way (v x) p) refl (λ q. sound (past way q) xs)

  -- what a value that takes a place makes of the rest
  on : (p : ℕ) (x : X) (q : ℕ) (xs : List X) (b : Bool) → Takes way (v x) p q → ok q ≡ b
      → takes way v ok p (x ∷ xs) ≡ cond b (having (q ∷ []) (takes way v ok (past way q) xs)) unlike
  unfolding takes
  on p x q xs b t k =
      ap (λ (w : Walked). on_walked ok w (λ r. takes way v ok (past way r) xs)) ((walk_takes way (v x) p q).1 t)
      ∙ ap (λ (b : Bool). cond b (having (q ∷ []) (takes way v ok (past way q) xs)) unlike) k

  stops_here : (p : ℕ) (x : X) (extent : ℕ) (xs : List X) → (walk_by way (v x) p ≡ Stopped extent) ⊎ (walk_by way (v x) p ≡ RanOut extent)
      → takes way v ok p (x ∷ xs) ≡ lost extent
  unfolding takes
  stops_here p x extent xs (inl e) = ap (λ (w : Walked). on_walked ok w (λ r. takes way v ok (past way r) xs)) e
  stops_here p x extent xs (inr e) = ap (λ (w : Walked). on_walked ok w (λ r. takes way v ok (past way r) xs)) e

  accepts : {p : ℕ} {xs : List X} {places : List ℕ} → Accepts way v ok p xs places → takes way v ok p xs ≡ taken places
  unfolding takes
  accepts no_value = refl
  accepts (more {p} {x} {q} {xs} {qs} t k a) = on p x q xs true t k ∙ ap (having (q ∷ [])) (accepts a)

  loses : {p extent : ℕ} {xs : List X} → Loses way v ok p xs extent → takes way v ok p xs ≡ lost extent
  loses (fails {p} {x} {extent} {xs} f) = stops_here p x extent xs (walk_fails way (v x) p extent f)
  loses (fails_later {p} {x} {q} {extent} {xs} t k l) = on p x q xs true t k ∙ ap (having (q ∷ [])) (loses l)

  turns : {p : ℕ} {xs : List X} → TurnsDown way v ok p xs → takes way v ok p xs ≡ unlike
  turns (turned {p} {x} {q} {xs} t k) = on p x q xs false t k
  turns (turned_later {p} {x} {q} {xs} t k d) = on p x q xs true t k ∙ ap (having (q ∷ [])) (turns d)

  told : (p : ℕ) (xs : List X) (o : Outcome) → takes way v ok p xs ≡ o → Says p xs o
  told p xs o e = subst (Says p xs) e (sound p xs)

  taken_one : (qs rs : List ℕ) → taken qs ≡ taken rs → qs ≡ rs
  taken_one qs rs e = cc

  pub demand_2 : (p : ℕ) (values : List X) → Demand2 way v ok p values
  demand_2 p values = record {
    accepted = λ places. (told p values (taken places), λ a. accepts a);
    no_others = λ places others a b. taken_one places others (sym (accepts a) ∙ accepts b);
    refused4 = λ extent. (told p values (lost extent), λ l. loses l);
    refused5 = (told p values unlike, λ d. turns d);
  }

-- without a rule on places none is turned down
pub never_turned : {X : Type 0} {way : Way} {v : X → ℕ → Verdict} {p : ℕ} {values : List X} → TurnsDown way v anywhere p values → ⊥
never_turned (turned t k) = true≢false k
never_turned (turned_later t k d) = never_turned d
