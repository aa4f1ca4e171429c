-- A due record that meets allowance 0, at any level of a run: what Short means (01, "Records over a text": "allowance 0, this level stops and the run
-- is Short").
use Rattle.std.specs.Prelude.{◌≡◌, true, List, [], ◌∷◌, ◌⊎◌, ℕ, zero, suc}
use Rattle.book.specs.Book.{Record, Lookup}
use Rattle.run.specs.Run.{Run, Stage, Effect, Deed, Acts, Chains, Rules, Match, Matched, Unmatched}
use Rattle.run.specs.Run.{opened, is_due, arrived, spending, step_by, acting, mending, deed_at, lookup_run}

-- at a due record, by the depth and the allowance that are left; `met k x` says it of lookup k, tried on x
abbrev pub MetTry : (ℕ → Run → Type 0) → ℕ → ℕ → Record → Stage → Type 0
MetTry met depth zero r v = Unit {0}
MetTry met zero (suc left) r v = ⊥
MetTry met (suc depth) (suc left) r v = met r.lookup (spending left v.run)

-- at one of the records, as the ones before it left the level
unfoldable pub MetRecords : (ℕ → Run → Type 0) → (ℕ → Effect) → ℕ → List Record → Stage → Type 0
MetRecords met effects depth [] v = ⊥
MetRecords met effects depth (r ∷ rs) v =
    ((is_due r v ≡ true) × MetTry met depth v.run.tally.left r (arrived r v)) ⊎ MetRecords met effects depth rs (step_by effects depth r v)

abbrev pub MetMatch : (Stage → Type 0) → Match → Run → Type 0
MetMatch met (Matched positions end) x = met (opened positions end x)
MetMatch met Unmatched x = ⊥

-- only a chain has records
abbrev pub MetDeed : (List Record → Stage → Type 0) → Deed → Run → Type 0
MetDeed met (Acts act) x = ⊥
MetDeed met (Chains match records) x = MetMatch (met records) (match x.text) x

-- a due record of the level, or of a level below it, met allowance 0
unfoldable pub Met : Rules → List Lookup → ℕ → List Record → Stage → Type 0
Met rules book zero rs v = MetRecords (λ k x. ⊥) (acting (mending rules book) (λ k x. x)) zero rs v
Met rules book (suc d) rs v =
    MetRecords (λ k. MetDeed (Met rules book d) (deed_at rules book k)) (acting (mending rules book) (lookup_run rules book d)) (suc d) rs v
