-- Laws of the two functions in a cycle: the entry that was found is the book's lookup, and what the code does with an entry is that lookup's deed.
use Rattle.std.proofs.Math.Path.{◌≡◌, refl}
use Rattle.std.proofs.Common.{sym, ap, subst, ◌∙◌, arith, length-take, length-drop}
use Rattle.std.specs.Prelude.{true, false, List, ℕ, ◌*◌, ◌≤◌, ◌<◌, Option, Some, None, IfSome, length}
use Rattle.text.specs.Text.{text_of}
use Rattle.book.specs.declared.Entry.{Entry}
use Rattle.book.specs.declared.Part.{Part}
use Rattle.book.specs.declared.ChainParts.{ChainParts}
use Rattle.book.specs.Book.{Record, Chain, Kind3, Found, records_of, lookup_at, most_input, most_records, lookups_of}
use Rattle.book.specs.Places.{part_of, chain_of, meant, is_chain, found_in, found_at}
use Rattle.book.specs.Inside.{PartInside, FoundInside}
use Rattle.book.specs.Finds.{found_is, found_inside}
use Rattle.run.specs.declared.Given.{Given}
use Rattle.run.specs.Repair.{Level, Sound}
use Rattle.run.specs.Run.{Run, Stage, Match, Matched, Unmatched, opened, chained_by, done_by, chain_run, lookup_run}
use Rattle.run.specs.Rises.{rises_wider}
use Rattle.run.specs.Kept.{Fitting, Fair}
use Rattle.run.specs.Chain.{asks, chain_by}
use Rattle.run.specs.ChainLaws.{chain_fitting}
use Rattle.run.specs.Deeds.{ids_of, deed_by, ruled}
use Rattle.run.specs.DeedLaws.{few_ids, ruled_fair}
use Rattle.run_positions.specs.declared.Slots.{Slots}
use Rattle.run_positions.specs.Slots.{level_of, shown, Neat}
use Rattle.run_positions.specs.Laws.{level_shown, shown_neat}
use Rattle.run_chain_match.specs.declared.Aim.{Aim}
use Rattle.run_chain_match.specs.Aim.{aim_at, aimed_at}
use Rattle.run_step.specs.declared.State.{State}
use Rattle.run_step.specs.State.{run_of, stage_of}
use Rattle.run_act.specs.Acts.{acted_by}
use Rattle.run_cycle.specs.Levels.{Indexed}

-- ---- the book

-- a chain whose parts are good has few input values
few_input : (ws : List ℕ) (c : ChainParts) → PartInside (length ws) most_input c.input → length (chain_of ws c).input ≤ most_input
few_input ws c i = simp (length-take, length-drop) (omega (arith, i.few))

few_by : (ws : List ℕ) (e : Option Entry) (props : ℕ) (c : Chain ℕ) → FoundInside (length ws) e → meant ws e ≡ Found.Is (Kind3 props c)
    → length c.input ≤ most_input
few_by ws (Some (Entry.Chain props' parts)) props c g e =
    let q : chain_of ws parts ≡ c = cc in
    subst (λ (k : Chain ℕ). length k.input ≤ most_input) q (few_input ws parts g.input)
few_by ws (Some (Entry.One p f t)) props c g e = let z : ◌≡◌ {A = ℕ} 0 1 = cc in absurd (omega arith)
few_by ws (Some (Entry.Many p f i)) props c g e = let z : ◌≡◌ {A = ℕ} 0 1 = cc in absurd (omega arith)
few_by ws None props c g e = let z : ◌≡◌ {A = ℕ} 0 1 = cc in absurd (omega arith)

module _ {ws starts : List ℕ} {count : ℕ} (x : Indexed ws starts count) where
  pub entry_meant : (k : ℕ) → meant ws (found_in ws starts count k) ≡ lookup_at k (lookups_of ws)
  entry_meant k = ap (λ i. meant ws (found_at ws i k)) (sym x.is) ∙ found_is ws (lookups_of ws) k x.reads

  pub entry_good : (k : ℕ) → FoundInside (length ws) (found_in ws starts count k)
  entry_good k = found_inside ws starts count k

  pub book_fair : (given : Given) (sets : List ℕ) → Fair (ruled given sets) (lookups_of ws)
  book_fair given sets = ruled_fair given sets (lookups_of ws)
      (λ k props c e. few_by ws (found_in ws starts count k) props c (entry_good k) (entry_meant k ∙ e))

  -- the deed of the entry that was found is lookup k's
  pub entry_run : (given : Given) (sets : List ℕ) (depth k : ℕ) (e : Option Entry) → e ≡ found_in ws starts count k → (y : Run)
      → done_by (chain_run (ruled given sets) (lookups_of ws) depth) ((ruled given sets).deed (meant ws e)) y
      ≡ lookup_run (ruled given sets) (lookups_of ws) depth k y
  entry_run given sets depth k e is y =
      ap (λ (f : Found). done_by (chain_run (ruled given sets) (lookups_of ws) depth) ((ruled given sets).deed f) y)
      (ap (meant ws) is ∙ entry_meant k)

-- ---- a lookup, by its entry

-- one that the book doesn't have does nothing
pub look_none : (given : Given) (sets ws : List ℕ) (depth : ℕ) (x : Run)
    → x ≡ done_by (chain_run (ruled given sets) (lookups_of ws) depth) ((ruled given sets).deed (meant ws None)) x
unfolding deed_by
look_none given sets ws depth x = refl

module _ (given : Given) (sets ws : List ℕ) (depth : ℕ) (done coming : List ℕ) (s : State) (e : Option Entry) where
  abbrev level_run : List Record → Stage → Stage
  level_run rs v = chain_run (ruled given sets) (lookups_of ws) depth rs v

  abbrev run : Run
  run = run_of done coming s

  -- what the lookup does, by the definition
  abbrev pub deed_run : Run
  deed_run = done_by (chain_run (ruled given sets) (lookups_of ws) depth) ((ruled given sets).deed (meant ws e)) (run_of done coming s)

  -- one that acts by itself, or that the book doesn't have
  acts_by : (b : Option Entry) → is_chain b ≡ false → acted_by ws b run ≡ done_by level_run ((ruled given sets).deed (meant ws b)) run
  unfolding deed_by
  acts_by (Some (Entry.Chain props parts)) h = let z : ◌≡◌ {A = ℕ} 0 1 = cc in absurd (omega arith)
  acts_by (Some (Entry.One props from to)) h = refl
  acts_by (Some (Entry.Many props from ids)) h = refl
  acts_by None h = look_none given sets ws depth run

  pub look_acts : is_chain e ≡ false → acted_by ws e (run_of done coming s) ≡ deed_run
  look_acts h = acts_by e h

  -- a chain, by whether it matched
  staged : (ps : List ℕ) (end : ℕ) → stage_of done coming s (shown (record { live = true; positions = ps; end = end })) ≡ opened ps end run
  staged ps end = let l = level_shown (record { live = true; positions = ps; end = end }) in λ j. record { level = l j; run = run }

  abbrev aimed_run : Aim → Run
  aimed_run a = (level_run (records_of (part_of ws a.records)) (stage_of done coming s a.level)).run

  hit_match : (records : Part) (m : Match)
      → IfSome (aim_at records m) (λ a. aimed_run a ≡ chained_by (level_run (records_of (part_of ws records))) m run)
  hit_match records (Matched ps end) = ap (λ (v : Stage). (level_run (records_of (part_of ws records)) v).run) (staged ps end)
  hit_match records Unmatched = tt

  miss_match : (records : Part) (m : Match) → None ≡ aim_at records m → run ≡ chained_by (level_run (records_of (part_of ws records))) m run
  miss_match records (Matched ps end) h = let z : ◌≡◌ {A = ℕ} 0 1 = cc in absurd (omega arith)
  miss_match records Unmatched h = refl

  abbrev aimed : Option Entry → Option Aim
  aimed b = aimed_at given sets ws b (text_of done coming s.place)

  abbrev matched : ℕ → ChainParts → Match
  matched props c = chain_by given sets props (ids_of (chain_of ws c)) (text_of done coming s.place)

  hit_by : (b : Option Entry) → IfSome (aimed b) (λ a. aimed_run a ≡ done_by level_run ((ruled given sets).deed (meant ws b)) run)
  unfolding deed_by
  hit_by (Some (Entry.Chain props c)) = hit_match c.records (matched props c)
  hit_by (Some (Entry.One props from to)) = tt
  hit_by (Some (Entry.Many props from ids)) = tt
  hit_by None = tt

  miss_by : (b : Option Entry) → is_chain b ≡ true → None ≡ aimed b → run ≡ done_by level_run ((ruled given sets).deed (meant ws b)) run
  unfolding deed_by
  miss_by (Some (Entry.Chain props c)) k h = miss_match c.records (matched props c) h
  miss_by (Some (Entry.One props from to)) k h = let z : ◌≡◌ {A = ℕ} 0 1 = cc in absurd (omega arith)
  miss_by (Some (Entry.Many props from ids)) k h = let z : ◌≡◌ {A = ℕ} 0 1 = cc in absurd (omega arith)
  miss_by None k h = let z : ◌≡◌ {A = ℕ} 0 1 = cc in absurd (omega arith)

  -- the level that a chain opens is sound, and its records are in the book
  pub record Opens (a : Aim) : Type 0 where
    pub neat : Neat a.level
    pub sound : Sound 0 (length (text_of done coming s.place).glyphs) (level_of a.level)
    pub ordered : a.records.from ≤ a.records.to
    pub within : a.records.to ≤ length ws

  opens_match : (records : Part) (m : Match) → Fitting (text_of done coming s.place) m → PartInside (length ws) (2 * most_records) records
      → IfSome (aim_at records m) Opens
  opens_match records (Matched ps end) fit i =
      let lv : Level = record { live = true; positions = ps; end = end } in
      record {
        neat = shown_neat lv;
        sound = rw (level_shown lv) (record {
          few = fit.few;
          rises = rises_wider 0 end (omega arith) (omega arith) fit.rises;
          begins = omega arith;
          within = fit.within;
        });
        ordered = i.ordered;
        within = i.within;
      }
  opens_match records Unmatched fit i = tt

  opens_by : (b : Option Entry) → FoundInside (length ws) b → s.place.d < length (text_of done coming s.place).glyphs → IfSome (aimed b) Opens
  opens_by (Some (Entry.Chain props c)) g h =
      opens_match c.records (matched props c)
      (chain_fitting (asks given props) sets (text_of done coming s.place) h (ids_of (chain_of ws c))
      (few_ids (chain_of ws c) (few_input ws c g.input))) g.records
  opens_by (Some (Entry.One props from to)) g h = tt
  opens_by (Some (Entry.Many props from ids)) g h = tt
  opens_by None g h = tt

  pub look_miss : is_chain e ≡ true → None ≡ aimed_at given sets ws e (text_of done coming s.place) → run_of done coming s ≡ deed_run
  look_miss k h = miss_by e k h

  module _ (a : Aim) (is : Some a ≡ aimed_at given sets ws e (text_of done coming s.place)) where
    pub look_hit : (chain_run (ruled given sets) (lookups_of ws) depth (records_of (part_of ws a.records)) (stage_of done coming s a.level)).run
        ≡ deed_run
    look_hit = rw (sym is) at (hit_by e)

    pub aim_opens : FoundInside (length ws) e → s.place.d < length (text_of done coming s.place).glyphs → Opens a
    aim_opens g h = rw (sym is) at (opens_by e g h)

-- ---- a level that is shown

pub level_neat : (lv : Slots) (L : Level) → lv ≡ shown L → Neat lv
level_neat lv L e = rw e (shown_neat L)
