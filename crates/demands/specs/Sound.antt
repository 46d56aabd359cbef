-- Document 01, "Refusal numbers": a record is sound if all of this holds, clause by clause, in its order.
-- Tasks and cores are counted from 0, the core of a run from 1; what stands past the end of an array is 0.
use Rattle.std.specs.Prelude.{ℕ, ◌+◌, ◌*◌, ◌-◌, ◌≤◌, ◌<◌, ◌≡◌, true, List, get_or}
use Rattle.std.specs.Int.{◌∣◌}
use Rattle.lists.specs.Lists.{total}
use Rattle.lists.specs.Rows.{how_many, column}
use Rattle.task_shares.specs.Movers.{fixed_on, moves_on, lower}
use Rattle.planning.specs.declared.Line.{Line}
use Rattle.planning.specs.Plan.{row_of, shares_table}
use Rattle.stored_runs.specs.declared.Run.{Run}
use Rattle.task_state.specs.declared.State.{State}
use Rattle.task_state.specs.State.{run_at}
use Rattle.dispatch.specs.declared.Record.{Record}
use Rattle.dispatch.specs.Record.{line_at, state_at}

-- the numbers of a task in use are in their ranges, under a common period L; whether it has had a release is 0 or 1
pub record InRange (L : ℕ) (ln : Line) (st : State) : Type 0 where
  pub period : (1 ≤ ln.period.0) × (ln.period.0 ≤ 1000000)
  pub cost : (1 ≤ ln.cost.0) × (ln.cost.0 ≤ ln.period.0)
  pub weight : (1 ≤ ln.weight.0) × (ln.weight.0 ≤ L)
  pub live : st.live ≤ 8
  pub had : st.had ≤ 1

-- the numbers of a line are 0
pub record NoLine (ln : Line) : Type 0 where
  pub numbers : (ln.cost.0 ≡ 0) × (ln.period.0 ≡ 0) × (ln.weight.0 ≡ 0)
  pub shares : (p : ℕ) → get_or (row_of ln) p 0 ≡ 0

-- those of a run
abbrev pub NoRun : Run → Type 0
NoRun run = (run.core ≡ 0) × (run.deadline.0 ≡ 0)

-- those of a state
pub record NoState (st : State) : Type 0 where
  pub numbers : (st.last.0 ≡ 0) × (st.place ≡ 0) × (st.live ≡ 0) × (st.had ≡ 0)
  pub counts : (p : ℕ) → get_or st.counts p 0 ≡ 0
  pub runs : (k : ℕ) → NoRun (run_at st k)

module _ (r : Record) where
  -- cores M
  abbrev pub M : ℕ
  M = r.plan.cores

  -- tasks N
  abbrev pub N : ℕ
  N = r.plan.count

  -- common period L
  abbrev pub L : ℕ
  L = r.plan.common

  -- the table of shares
  abbrev pub table : List (List ℕ)
  table = shares_table r.plan

  -- of task i: cost C
  abbrev pub C : ℕ → ℕ
  C i = (line_at r i).cost.0

  -- period T
  abbrev pub T : ℕ → ℕ
  T i = (line_at r i).period.0

  -- weight w
  abbrev pub w : ℕ → ℕ
  w i = (line_at r i).weight.0

  -- its row of shares
  abbrev pub row : ℕ → List ℕ
  row i = row_of (line_at r i)

  -- its state
  abbrev pub state : ℕ → State
  state i = state_at r i

  -- the record is sound
  pub record Sound : Type 0 where
    -- every number in use is in its range
    pub cores : (1 ≤ M) × (M ≤ 16)
    pub tasks : (1 ≤ N) × (N ≤ 64)
    pub common : (1 ≤ L) × (L ≤ 1000000)
    pub clock : r.clock.0 ≤ 1000000000000
    pub ranges : (i : ℕ) → i < N → InRange L (line_at r i) (state i)
    -- the others are 0: past the N tasks
    pub past : (i : ℕ) → N ≤ i → NoLine (line_at r i) × NoState (state i)
    -- past a task's unfinished runs
    pub ended : (i k : ℕ) → i < N → (state i).live ≤ k → NoRun (run_at (state i) k)
    -- the last release of a task that has had none
    pub unreleased : (i : ℕ) → i < N → (state i).had ≡ 0 → (state i).last.0 ≡ 0
    -- a last release is within the clock's range
    pub last : (i : ℕ) → i < N → (state i).last.0 ≤ 1000000000000
    -- L is the common period of its tasks: each period divides it, and it is the least positive number that each divides
    pub multiple : (i : ℕ) → i < N → T i ∣ L
    pub least : (n : ℕ) → 1 ≤ n → ((i : ℕ) → i < N → T i ∣ n) → L ≤ n
    -- each w is C × L / T (T divides L, so nothing remains)
    pub weights : (i : ℕ) → i < N → w i * T i ≡ C i * L
    -- each task's shares sum to w
    pub shares : (i : ℕ) → i < N → total (row i) ≡ w i
    -- each core's to at most L
    pub loads : (p : ℕ) → column p table ≤ L
    -- and only the M cores have any
    pub only : (i p : ℕ) → M ≤ p → get_or (row i) p 0 ≡ 0
    -- no core has more than two movers
    pub movers : (p : ℕ) → how_many (moves_on p) table ≤ 2
    -- two have it as first core of exactly one
    pub first : (p : ℕ) → how_many (moves_on p) table ≡ 2 → how_many (lower p) table ≡ 1
    -- on a core with a mover some fixed task weighs at least as much as each mover there
    pub guarded : (i p : ℕ) → moves_on p (row i) ≡ true → (j : ℕ) × (fixed_on p (row j) ≡ true) × (w i ≤ w j)
    -- each task's turn counts sum to its place in the turn cycle
    pub counts : (i : ℕ) → i < N → total (state i).counts ≡ (state i).place
    -- that place is below w
    pub places : (i : ℕ) → i < N → (state i).place < w i
    -- each stored run's core is one where its task has a share
    pub runs : (i k : ℕ) → i < N → k < (state i).live → (1 ≤ (run_at (state i) k).core) × (1 ≤ get_or (row i) ((run_at (state i) k).core - 1) 0)
    -- and its deadline at most the clock's limit plus T
    pub deadlines : (i k : ℕ) → i < N → k < (state i).live → (run_at (state i) k).deadline.0 ≤ 1000000000000 + T i
