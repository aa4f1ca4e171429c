-- Reading structs loses nothing, an array is filled record after record, and what is kept of a list of records is refused or run as the whole list.
use Rattle.std.specs.Prelude.{◌≡◌, Bool, ◌||◌, ℕ, suc, ◌+◌, ◌*◌, ◌%◌, ◌≤◌, ◌<◌, ⊤, Result, Err, ltb, get_or, set, take}
use Rattle.std.proofs.Math.Path.{refl, subst}
use Rattle.std.proofs.Common.{sym, ap, ◌∙◌, add-one, arith, length-set, take-suc, take-suc-set}
use Rattle.std.proofs.Math.Bool.{true, false}
use mathlib.Core.List.{List, [], ◌∷◌, ◌++◌, map}
use borrow.Author.Tests.{leb-true, leb-false, ltb-true, ltb-false, eq-eqb, lt-ltb, le-ltb}
use Rattle.std.proofs.Math.Dec.{leb}
use Rattle.std.proofs.Math.ListN.{length}
use Rattle.std.proofs.lemmas.List.{length-replicate}
use Rattle.std.proofs.Math.Seq.{length-take-le, take-length}
use Rattle.text.specs.declared.Place.{Place}
use Rattle.book.specs.Book.{most_records, records_of}
use Rattle.book.specs.Book as book
use Rattle.matching.specs.declared.InputMatch.{InputMatch}
use Rattle.run.specs.declared.Given.{Given}
use Rattle.run.specs.Run.{Stage}
use Rattle.run.specs.declared.RunRefusal.{RunRefusal}
use Rattle.run.specs.declared.RunRefusal.TheVariants.{Shape}
use Rattle.run_calls.specs.declared.RunAnswer.{RunAnswer}
use Rattle.run_refuse.specs.Refuse.{bad_records, checked_first}
use Rattle.run_calls.specs.Calls.{Handed, checked_all, SaidBy, Said}
use Rattle.run_record_structs.specs.declared.Record.{Record}
use Rattle.run_record_structs.specs.declared.Pairs.{Pairs}
use Rattle.run_record_structs.specs.Records.{record_words, record_meant}
use Rattle.run_record_structs.specs.Array.{most_pairs, pairs_kept, no_record, no_pairs, with_pair, Filled}

-- ---- structs and words

-- the words are read back as the records that the structs are, in their order
pub records_meant : (rs : List Record) → records_of (record_words rs) ≡ map record_meant rs
unfolding records_of record_words
records_meant [] = refl
records_meant (r ∷ rs) = ap (λ (l : List book.Record). record_meant r ∷ l) (records_meant rs)

pub words-length : (rs : List Record) → length (record_words rs) ≡ 2 * length rs
unfolding record_words
words-length [] = refl
words-length (r ∷ rs) = omega (arith, words-length rs)

-- as structs they are always pairs, and too many are over 16 (01, refusal 1)
pub bad_words : (rs : List Record) → bad_records (record_words rs) ≡ ltb most_records (length rs)
bad_words rs = rw (eq-eqb (length (record_words rs) % 2) 0 even, by_test (ltb most_records (length rs)) refl)
  where
    even : length (record_words rs) % 2 ≡ 0
    even = omega (arith, words-length rs)

    by_test : (b : Bool) → ltb most_records (length rs) ≡ b → ltb (2 * most_records) (length (record_words rs)) ≡ ltb most_records (length rs)
    by_test true e = lt-ltb (2 * most_records) (length (record_words rs)) (omega (arith, words-length rs, ltb-true most_records (length rs) e))
        ∙ sym e
    by_test false e = le-ltb (2 * most_records) (length (record_words rs)) (omega (arith, words-length rs, ltb-false most_records (length rs) e))
        ∙ sym e

-- one more record is two more words
words_last : (rs : List Record) (r : Record) → record_words (rs ++ r ∷ []) ≡ (record_words rs ++ r.sequence ∷ []) ++ r.lookup ∷ []
unfolding record_words
words_last [] r = refl
words_last (x ∷ rs) r = ap (λ (l : List ℕ). x.sequence ∷ x.lookup ∷ l) (words_last rs r)

-- ---- the array, record after record

pub filled_none : (rs : List Record) → Filled (take 0 rs) no_pairs
unfolding record_words
filled_none rs = record { number = refl; room = length-replicate {A = ℕ} (2 * most_pairs) 0; words = refl }

module _ (rs : List Record) (i : ℕ) (p : Pairs) (here : i < length rs) (fits : i < most_pairs) (f : Filled (take i rs) p) where
  at : p.n ≡ i
  at = f.number ∙ length-take-le i rs (omega arith)

  -- there is room
  pub filled_room : p.n < most_pairs
  filled_room = omega (arith, at)

  abbrev r : Record
  r = get_or rs i no_record

  pairs_on : (w : List ℕ) (n : ℕ) → 2 * n + 1 < length w → take (2 * (n + 1)) (set (set w (2 * n) r.sequence) (2 * n + 1) r.lookup)
      ≡ (take (2 * n) w ++ r.sequence ∷ []) ++ r.lookup ∷ []
  pairs_on w n h =
      let e : 2 * (n + 1) ≡ suc (2 * n + 1) = omega arith in
      let g : 2 * n + 1 < length (set w (2 * n) r.sequence) = omega (arith, length-set w (2 * n) r.sequence) in
      ap (λ (k : ℕ). take k (set (set w (2 * n) r.sequence) (2 * n + 1) r.lookup)) e
      ∙ take-suc-set (set w (2 * n) r.sequence) (2 * n + 1) r.lookup g
      ∙ ap (λ (l : List ℕ). l ++ r.lookup ∷ []) (ap (λ (k : ℕ). take k (set w (2 * n) r.sequence)) (add-one (2 * n))
      ∙ take-suc-set w (2 * n) r.sequence (omega arith))

  pub filled_more : Filled (take (i + 1) rs) (with_pair p r)
  filled_more =
      record {
        number = omega (arith, at, length-take-le (i + 1) rs (omega arith));
        room = length-set (set p.words (2 * p.n) r.sequence) (2 * p.n + 1) r.lookup ∙ length-set p.words (2 * p.n) r.sequence
            ∙ f.room;
        words = pairs_on p.words p.n (omega (arith, at, f.room))
            ∙ ap (λ (l : List ℕ). (l ++ r.sequence ∷ []) ++ r.lookup ∷ []) f.words
            ∙ sym (words_last (take i rs) r)
            ∙ ap record_words (sym (take-suc rs i no_record here) ∙ ap (λ (k : ℕ). take k rs) (sym (add-one i)));
      }

-- ---- what is kept of a list

pub kept_few : (n : ℕ) → (pairs_kept n ≤ n) × (pairs_kept n ≤ most_pairs)
kept_few n = (omega arith, omega arith)

or_true : (a : Bool) → (a || true) ≡ true
or_true true = refl
or_true false = refl

-- over 16 records is 1, whatever else is wrong
many_refused : (h : Handed) (allowance depth : ℕ) → 2 * most_records < length h.records → checked_all h allowance depth ≡ Err Shape
unfolding checked_all checked_first
many_refused h allowance depth l = rw (lt-ltb (2 * most_records) (length h.records) l, or_true, or_true, or_true)

-- of the records that are kept no more is asked than an array holds
pub filled_fits : (rs : List Record) (p : Pairs) → Filled (take (pairs_kept (length rs)) rs) p
    → (p.n ≤ most_pairs) × (length p.words ≡ 2 * most_pairs)
filled_fits rs p f = let k = kept_few (length rs) in (omega (arith, f.number, length-take-le (pairs_kept (length rs)) rs k.0, k.1), f.room)

module _ (done coming : List ℕ) (place : Place) (sets book : List ℕ) (m : InputMatch) (given : Given) (allowance depth : ℕ) (done' coming' : List ℕ)
    (r : Result RunAnswer RunRefusal) where
  -- what the run on these words says
  abbrev handed : List ℕ → Handed
  handed words =
      record { done = done; coming = coming; place = place; sets = sets; book = book; records = words; match = m; given = given }

  abbrev pub SaidOf : List ℕ → Type 0
  SaidOf words = Said (handed words) allowance depth done' coming' r

  -- two refusals by 1 say the same, whatever the runs would be
  refused_same : (v v' : Stage) (c c' : Result ⊤ RunRefusal) → c ≡ Err Shape → c' ≡ Err Shape → SaidBy c v done coming done' coming' r
      → SaidBy c' v' done coming done' coming' r
  refused_same v v' c c' e e' said =
      subst (λ (k : Result ⊤ RunRefusal). SaidBy k v' done coming done' coming' r) (sym e')
      (subst (λ (k : Result ⊤ RunRefusal). SaidBy k v done coming done' coming' r) e said)

  -- the records that are kept are refused by 1, or run, as the whole list
  pub said_kept : (rs : List Record) → SaidOf (record_words (take (pairs_kept (length rs)) rs)) → SaidOf (record_words rs)
  said_kept rs = by_test (leb most_pairs (length rs)) refl
    where
      by_test : (b : Bool) → leb most_pairs (length rs) ≡ b → SaidOf (record_words (take (pairs_kept (length rs)) rs)) → SaidOf (record_words rs)
      by_test true e said =
          let h : most_pairs ≤ length rs = leb-true most_pairs (length rs) e in
          let k : pairs_kept (length rs) ≡ most_pairs = omega arith in
          refused_same _ _ _ _
          (many_refused (handed (record_words (take (pairs_kept (length rs)) rs))) allowance depth
          (omega (arith, words-length (take (pairs_kept (length rs)) rs), length-take-le (pairs_kept (length rs)) rs (kept_few (length rs)).0)))
          (many_refused (handed (record_words rs)) allowance depth (omega (arith, words-length rs)))
          said
      by_test false e said =
          let l = leb-false most_pairs (length rs) e in
          let k : pairs_kept (length rs) ≡ length rs = omega arith in
          subst (λ (l : List Record). SaidOf (record_words l)) (ap (λ (n : ℕ). take n rs) k ∙ take-length rs) said

  -- the run on the array's words is the run on the records
  pub said_filled : (rs : List Record) (p : Pairs) → Filled (take (pairs_kept (length rs)) rs) p → SaidOf (take (2 * p.n) p.words)
      → SaidOf (record_words rs)
  said_filled rs p f said = said_kept rs (subst SaidOf f.words said)
