-- A run touches no glyph before the match's first position, which is the cursor, and leaves rising positions (01, "Records over a text"), said of
-- calls.
-- Every chain of a book that reads matches in its text, so what is shown of any fair rules holds of the run.
use Rattle.std.specs.Result.{IsOkAnd}
use Rattle.std.specs.Prelude.{Result, Ok, Err}
use Rattle.std.specs.Prelude.{◌≡◌, refl, true, List, ℕ, ◌-◌, ◌≤◌, ◌<◌, length, get_or, take, replicate}
use Rattle.std.proofs.Common.{sym, ap, ap₂, subst, ◌∙◌, arith, length-take, take_at}
use Rattle.std.proofs.lemmas.List.{length-map}
use Rattle.glyph.specs.declared.Glyph.{Glyph}
use Rattle.glyph.specs.Glyph.{glyphs_of, blank}
use Rattle.text.specs.declared.Place.{Place}
use Rattle.text.specs.Text.{Text, text_of, written, Fits}
use Rattle.text.specs.Changes.{before_cursor}
use Rattle.text.specs.Laws.{sizes}
use Rattle.matching.specs.Take.{slots}
use Rattle.book.specs.Book.{records_of, read_book, is_read, lookups_of}
use Rattle.run.specs.declared.Given.{Given}
use Rattle.run.specs.declared.RunRefusal.{RunRefusal}
use Rattle.run.specs.Repair.{Level, repaired, Rises, Sound}
use Rattle.run.specs.Run.{begun, from_done, moved_level}
use Rattle.run.specs.Rises.{rises_wider}
use Rattle.run.specs.Kept.{Fair, Good}
use Rattle.run.specs.Chain.{chain_by}
use Rattle.run.specs.Deeds.{ruled}
use Rattle.run.specs.Drawn.{Drawn, Copied, Has, Steady, mask, mask_copied, run_drawn, drawn_has, drawn_steady}
use Rattle.run.specs.Promises.{run_good}
use Rattle.run_cycle.specs.Cycle.{book_fair}
use Rattle.run_calls.specs.declared.RunAnswer.{RunAnswer}
use Rattle.run_calls.specs.Calls.{RunLeaves, Handed, run_says}
use Rattle.run_calls.specs.CallLaws.{places_show, moved_rise, index_is, index_there, held_by}
use Rattle.run_calls.specs.Lines.{Usable, places_of}
use Rattle.run_calls.specs.Table.{good_by, reads, accepted, fits_of, leaves}
use Rattle.run_calls.specs.Handed.{Left, text_after, Called, Acceptable}
use Rattle.matching.specs.Answers.{match_end}

fair_of : (book : List ℕ) (given : Given) (sets : List ℕ) → is_read (read_book book) ≡ true → Fair (ruled given sets) (lookups_of book)
fair_of book given sets r = let i = index_there book r in book_fair (index_is book i.0 i.1) given sets

module _ (h : Handed) where
  abbrev p : Place
  p = h.place

  abbrev t : Text
  t = text_of h.done h.coming p

  abbrev first : Level
  first = moved_level p.idx p.d (places_of h.match) (match_end h.match.answer)

  -- the level of the match that is handed in lies in the text, from the cursor on
  first_sound : Fits h.done h.coming p → Usable p.idx h.match → Sound p.d (length t.glyphs) first
  first_sound f u =
      let z = sizes h.done h.coming p f in
      let s = places_show p.idx u.end h.match.count h.match.positions (good_by p.idx h.match u) in
      let e : match_end h.match.answer ≡ u.end = ap match_end u.success in
      let n = length-map (places_of h.match) (from_done p.idx p.d) in
      let k = length-take h.match.count h.match.positions in
      record {
        few = omega (arith, u.few);
        rises = rw e (moved_rise p.idx u.end (places_of h.match) p.idx p.d p.d (omega arith) (omega arith) s.rise);
        begins = omega arith;
        within = omega (arith, u.within);
      }

  -- any call that no line refuses
  module _ (a d : ℕ) (l : Left) (c : Called h a d l) (k : Acceptable h a d) where
    fits : Fits h.done h.coming p
    fits = fits_of h k.shaped k.inside

    good : Good p.d (begun a t) (run_says h a d)
    good =
        let z = sizes h.done h.coming p fits in
        run_good (ruled h.given h.sets) (lookups_of h.book) (records_of h.records) first.positions first.end t
        (fair_of h.book h.given h.sets (reads h.book c.book_words k.legible)) d a (first_sound fits k.usable) (omega arith)

    whole : IsOkAnd l.answer (RunLeaves (run_says h a d) l.done l.coming)
    whole = leaves h a d l c ((accepted h a d c.book_words).1 k)

    text_is : text_after l ≡ (run_says h a d).run.text
    text_is = (held_by (run_says h a d) l.done l.coming l.answer whole).0.text

    -- the level that it leaves, over the text that it leaves
    level_sound : Sound p.d (length (text_after l).glyphs) (run_says h a d).level
    level_sound = subst (λ (u : Text). Sound p.d (length u.glyphs) (run_says h a d).level) (sym text_is) good.level

    -- the glyphs before the cursor, the first d of `done`, are those of the text afterwards
    pub run_keeps : take p.d (text_after l).glyphs ≡ take p.d (glyphs_of h.done)
    run_keeps =
        ap (λ (u : Text). take p.d u.glyphs) text_is ∙ good.kept.before ∙ before_cursor fits

    -- the answer's positions are at most 64
    pub positions_few : IsOkAnd l.answer (λ r. r.count ≤ slots)
    positions_few = by l.answer whole
      where
        by : (r : Result RunAnswer RunRefusal) → IsOkAnd r (RunLeaves (run_says h a d) l.done l.coming) → IsOkAnd r (λ x. x.count ≤ slots)
        by (Ok r) w = omega (arith, w.count, level_sound.few)
        by (Err why) w = w

    -- they rise from the cursor on, and none is past the text's end
    pub positions_rise : IsOkAnd l.answer (λ r. Rises p.d (length (text_after l).glyphs) (take r.count r.positions))
    positions_rise = by l.answer whole
      where
        by : (r : Result RunAnswer RunRefusal) → IsOkAnd r (RunLeaves (run_says h a d) l.done l.coming)
            → IsOkAnd r (λ x. Rises p.d (length (text_after l).glyphs) (take x.count x.positions))
        by (Ok r) w =
            let ps : List ℕ = (run_says h a d).level.positions in
            let e : take r.count r.positions ≡ ps =
            ap₂ (λ (n : ℕ) (s : List ℕ). take n s) w.count w.positions ∙ take_at ps (replicate (slots - length ps) 0) (length ps) refl in
            rw e (rises_wider p.d (length (text_after l).glyphs) (omega arith) level_sound.within level_sound.rises)
        by (Err why) w = w

    -- a field that is copied into what is written: its values after are those before, in their order
    fields_drawn : {X : Type 0} (f : Glyph → X) → Copied f written → Drawn f t.glyphs (text_after l).glyphs
    fields_drawn f k = subst (λ (u : Text). Drawn f t.glyphs u.glyphs) (sym text_is)
        (run_drawn (chain_by h.given h.sets) written (λ found. repaired) (lookups_of h.book) d (records_of h.records) first.positions
        first.end a t f k)

    -- every glyph after the call has the mask of some glyph before it
    pub masks_were_there : (i : ℕ) → i < length (text_after l).glyphs → Has mask t.glyphs (mask (get_or (text_after l).glyphs i blank))
    masks_were_there i k = drawn_has mask (fields_drawn mask mask_copied) i k

    -- what never fell along the text never falls after the call
    pub stays_steady : (f : Glyph → ℕ) → Copied f written → Steady f t.glyphs → Steady f (text_after l).glyphs
    stays_steady f k s = drawn_steady f (fields_drawn f k) s
