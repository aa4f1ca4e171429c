-- Laws of places that can be a level's, test by test.
use Rattle.std.specs.Prelude.{◌≡◌, refl, true, false, ◌&&◌, List, [], ◌∷◌, ℕ, ◌+◌, ◌≤◌, ◌<◌, ltb, get_or, take, drop}
use Rattle.std.proofs.Math.Path.{sym, ap}
use Rattle.std.proofs.Common.{◌∙◌, add-one, le-leb, lt-ltb, le-ltb, eq-eqb, ne_eqb, drop_of_length-le, drop-cons}
use Rattle.std.proofs.lemmas.Bool.{lt-leb}
use Rattle.std.proofs.Math.Dec.{leb}
use Rattle.std.proofs.Math.ListN.{length}
use Rattle.glyph.specs.Glyph.{limit}
use Rattle.matching.specs.Take.{slots}
use Rattle.run_refuse.specs.Refuse.{rises_to, good_places}

-- ---- places that rise, one a turn

module _ (from end : ℕ) (L : List ℕ) where
  -- the whole is what is left from here
  abbrev pub LeftFrom : ℕ → ℕ → Type 0
  LeftFrom low i = rises_to from end L ≡ rises_to low end (drop i L)

  here : (low i : ℕ) → i < length L → LeftFrom low i
      → rises_to from end L ≡ (leb low (get_or L i 0) && (ltb (get_or L i 0) end && rises_to (get_or L i 0 + 1) end (drop (i + 1) L)))
  unfolding rises_to
  here low i h e =
      let p : ℕ = get_or L i 0 in
      e ∙ ap (rises_to low end) (drop-cons L i 0 h)
      ∙ ap (λ (k : ℕ). leb low p && (ltb p end && rises_to (p + 1) end (drop k L))) (sym (add-one i))

  pub rise_low : (low i p : ℕ) → i < length L → LeftFrom low i → p ≡ get_or L i 0 → p < low → false ≡ rises_to from end L
  rise_low low i p h e q l = sym (here low i h e ∙ rw (← q, lt-leb low p l))

  pub rise_past : (low i p : ℕ) → i < length L → LeftFrom low i → p ≡ get_or L i 0 → low ≤ p → end ≤ p → false ≡ rises_to from end L
  rise_past low i p h e q l m = sym (here low i h e ∙ rw (← q, le-leb low p l, le-ltb p end m))

  pub rise_on : (low i p : ℕ) → i < length L → LeftFrom low i → p ≡ get_or L i 0 → low ≤ p → p < end → LeftFrom (p + 1) (i + 1)
  rise_on low i p h e q l m = here low i h e ∙ rw (← q, le-leb low p l, lt-ltb p end m)

  pub rise_end : (low i : ℕ) → length L ≤ i → LeftFrom low i → true ≡ rises_to from end L
  unfolding rises_to
  rise_end low i h e = sym (e ∙ ap (rises_to low end) (drop_of_length-le L {i = i} h))

pub rise_start : (from end : ℕ) (L : List ℕ) → rises_to from end L ≡ rises_to from end (drop 0 L)
rise_start from end [] = refl
rise_start from end (p ∷ L) = refl

-- ---- whether places can be a level's

module _ (idx end count : ℕ) (places : List ℕ) where
  pub places_none : count ≡ 0 → false ≡ good_places idx end count places
  places_none e = rw (eq-eqb count 0 e)

  module _ (some : count ≡ 0 → ⊥) where
    pub places_many : slots < count → false ≡ good_places idx end count places
    places_many h = rw (ne_eqb count 0 some, lt-leb count slots h)

    module _ (few : count ≤ slots) where
      pub places_long : limit < end → false ≡ good_places idx end count places
      places_long h = rw (ne_eqb count 0 some, le-leb count slots few, lt-leb end limit h)

      module _ (short : end ≤ limit) where
        pub places_first : (p : ℕ) → p ≡ get_or places 0 0 → (p ≡ idx → ⊥) → false ≡ good_places idx end count places
        places_first p e h = rw (ne_eqb count 0 some, le-leb count slots few, le-leb end limit short, ← e, ne_eqb p idx h)

        pub places_rise : (p : ℕ) → p ≡ get_or places 0 0 → p ≡ idx → rises_to idx end (take count places) ≡ good_places idx end count places
        places_rise p e h = rw (ne_eqb count 0 some, le-leb count slots few, le-leb end limit short, ← e, eq-eqb p idx h)
