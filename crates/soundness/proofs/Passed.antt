-- One task more, core by core: those below p have its share, the others are as they were.
use Prim.Native.Nat.{ℕ, ◌+◌, ◌*◌, ◌≤◌, ◌<◌, max}
use mathlib.Core.Path.{◌≡◌, refl, sym, ap, ◌∙◌}
use mathlib.Core.Bool.{true, false}
use mathlib.Core.List.{List}
use native.Mathlib.Omega.{arith}
use lib.Dec.{ltb, eqb}
use lib.ListN.{length, get_or, set}
use lib.Seq.{get_or-set_same, get_or-set_other}
use borrow.Author.Tests.{lt-ltb, le-ltb, eqb-true, eqb-false}
use Rattle.units.specs.Limits.{cores_limit, tasks_limit, common_limit}
use Rattle.units.specs.declared.share.Share.{Share}
use Rattle.units.specs.Units.{share, nums}
use Rattle.units.proofs.Units.{nums_at}
use Rattle.lists.specs.Lists.{total, bit, val}
use Rattle.lists.proofs.Tests.{by_cases}
use Rattle.lists.proofs.Lists.{get_or_le_sum}
use Rattle.lists.proofs.Filled.{Stored, stored_none, store_next, store_skip}
use Rattle.task_shares.specs.Movers.{moves, first_core}
use Rattle.soundness.specs.declared.sums.Sums.{Sums}
use Rattle.soundness.specs.Inner.{load_at, fixed_at, movers_at, firsts_at, heaviest_at, OneMore, AtMostAllTasks}
use Rattle.soundness.proofs.Added.{fixed_more, mover_more}

-- the share on core q
abbrev pub share_at : List Share → ℕ → ℕ
share_at row q = (get_or row q (share 0)).0

-- an array of shares, of which those below p are done
abbrev Shares : (ℕ → Share) → List Share → ℕ → List Share → Type 0
Shares f old p now = Stored (share 0) cores_limit f old 0 p now

-- the next one is stored, by what stood there
next_share : (f : ℕ → ℕ) (g : ℕ → ℕ → ℕ) (old now : List Share) (p : ℕ) (v : Share)
    → Shares (λ q. share (g (get_or old q (share 0)).0 (f q))) old p now → p < cores_limit → v.0 ≡ g (get_or now p (share 0)).0 (f p)
    → Shares (λ q. share (g (get_or old q (share 0)).0 (f q))) old (p + 1) (set now p v)
next_share f g old now p v k h e =
    store_next (share 0) cores_limit (λ q. share (g (get_or old q (share 0)).0 (f q))) old 0 p now v k h
    (ap share e ∙ ap (λ (s : Share). share (g s.0 (f p))) (k.above p (omega arith)))

module _ (row : List Share) (old : Sums) where
  -- the loads with its shares
  abbrev pub LoadsPassed : ℕ → List Share → Type 0
  LoadsPassed p now = Shares (λ q. share (load_at old q + share_at row q)) old.loads p now

  -- no load is too large
  pub load_fits : (p : ℕ) (now : List Share) → LoadsPassed p now → p < cores_limit → AtMostAllTasks old → total (nums row) ≤ common_limit
      → (get_or now p (share 0)).0 + share_at row p ≤ tasks_limit * common_limit + common_limit
  load_fits p now k h few small =
      omega (arith, few.loads p h, ap (λ (s : Share). s.0) (k.above p (omega arith)), nums_at row p, get_or_le_sum (nums row) p)

  -- a fixed task
  pub record FixedPassed (p : ℕ) (now : Sums) : Type 0 where
    pub loads : LoadsPassed p now.loads
    pub fixed : Shares (λ q. share (max (fixed_at old q) (share_at row q))) old.fixed p now.fixed
    pub movers : now.movers ≡ old.movers
    pub firsts : now.firsts ≡ old.firsts
    pub heaviest : now.heaviest ≡ old.heaviest

  pub fixed_none : length old.loads ≡ cores_limit → length old.fixed ≡ cores_limit → FixedPassed 0 old
  fixed_none l f = record {
    loads = stored_none _ _ _ _ _ (omega arith) l;
    fixed = stored_none _ _ _ _ _ (omega arith) f;
    movers = refl;
    firsts = refl;
    heaviest = refl;
  }

  -- one core more
  pub fixed_next : (p : ℕ) (now : Sums) (v f : Share) → FixedPassed p now → p < cores_limit
      → v.0 ≡ load_at now p + share_at row p → f.0 ≡ max (fixed_at now p) (share_at row p)
      → FixedPassed (p + 1) (record {
        loads = set now.loads p v;
        fixed = set now.fixed p f;
        movers = now.movers;
        firsts = now.firsts;
        heaviest = now.heaviest;
      })
  fixed_next p now v f k h d e = record {
    loads = next_share (share_at row) ◌+◌ old.loads now.loads p v k.loads h d;
    fixed = next_share (share_at row) max old.fixed now.fixed p f k.fixed h e;
    movers = k.movers;
    firsts = k.firsts;
    heaviest = k.heaviest;
  }

  -- all cores
  pub fixed_done : (now : Sums) → FixedPassed cores_limit now → moves (nums row) ≡ false → OneMore (nums row) old now
  fixed_done now k e tab was q h =
      fixed_more (nums row) tab old now q e (was q h)
      (rw (nums_at row q) (ap (λ (s : Share). s.0) (k.loads.done q (omega arith) h)))
      (rw (nums_at row q) (ap (λ (s : Share). s.0) (k.fixed.done q (omega arith) h)))
      (ap (λ (ns : List ℕ). get_or ns q 0) k.movers)
      (ap (λ (ns : List ℕ). get_or ns q 0) k.firsts)
      (ap (λ (ss : List Share). (get_or ss q (share 0)).0) k.heaviest)

  -- the counts of movers with it
  abbrev pub MoversPassed : ℕ → List ℕ → Type 0
  MoversPassed p now = Stored 0 cores_limit (λ q. movers_at old q + bit (ltb 0 (share_at row q))) old.movers 0 p now

  -- no count is too large
  pub movers_fit : (p : ℕ) (now : List ℕ) → MoversPassed p now → p < cores_limit → AtMostAllTasks old → get_or now p 0 ≤ tasks_limit
  movers_fit p now k h few = omega (arith, few.movers p h, k.above p (omega arith))

  -- a mover of weight w
  pub record MoverPassed (w p : ℕ) (now : Sums) : Type 0 where
    pub loads : LoadsPassed p now.loads
    pub fixed : now.fixed ≡ old.fixed
    pub movers : MoversPassed p now.movers
    pub firsts : now.firsts ≡ old.firsts
    pub heaviest : Shares (λ q. share (max (heaviest_at old q) (val (ltb 0 (share_at row q)) w))) old.heaviest p now.heaviest

  pub mover_none : (w : ℕ) → length old.loads ≡ cores_limit → length old.movers ≡ cores_limit → length old.heaviest ≡ cores_limit
      → MoverPassed w 0 old
  mover_none w l m h = record {
    loads = stored_none _ _ _ _ _ (omega arith) l;
    fixed = refl;
    movers = stored_none _ _ _ _ _ (omega arith) m;
    firsts = refl;
    heaviest = stored_none _ _ _ _ _ (omega arith) h;
  }

  -- one core more, with a share
  pub mover_next : (w p : ℕ) (now : Sums) (v g : Share) → MoverPassed w p now → p < cores_limit → 0 < share_at row p
      → v.0 ≡ load_at now p + share_at row p → g.0 ≡ max (heaviest_at now p) w
      → MoverPassed w (p + 1) (record {
        loads = set now.loads p v;
        fixed = now.fixed;
        movers = set now.movers p (movers_at now p + 1);
        firsts = now.firsts;
        heaviest = set now.heaviest p g;
      })
  mover_next w p now v g k h s d e =
      let t = lt-ltb 0 (share_at row p) s in
      record {
        loads = next_share (share_at row) ◌+◌ old.loads now.loads p v k.loads h d;
        fixed = k.fixed;
        movers = store_next _ _ _ _ _ _ _ _ k.movers h (rw (t, k.movers.above p (omega arith)));
        firsts = k.firsts;
        heaviest = next_share (λ q. val (ltb 0 (share_at row q)) w) max old.heaviest now.heaviest p g k.heaviest h (rw t e);
      }

  -- and without
  pub mover_skip : (w p : ℕ) (now : Sums) (v : Share) → MoverPassed w p now → p < cores_limit → share_at row p ≤ 0
      → v.0 ≡ load_at now p + share_at row p → MoverPassed w (p + 1) (record {
        loads = set now.loads p v;
        fixed = now.fixed;
        movers = now.movers;
        firsts = now.firsts;
        heaviest = now.heaviest;
      })
  mover_skip w p now v k h s d =
      let t = le-ltb 0 (share_at row p) s in
      record {
        loads = next_share (share_at row) ◌+◌ old.loads now.loads p v k.loads h d;
        fixed = k.fixed;
        movers = store_skip _ _ _ _ _ _ _ k.movers h (rw t (omega arith));
        firsts = k.firsts;
        heaviest = store_skip _ _ _ _ _ _ _ k.heaviest h (rw t (ap share (omega arith)));
      }

-- with one mover more whose first core is f
abbrev pub with_first : ℕ → Sums → Sums
with_first f s = record {
  loads = s.loads;
  fixed = s.fixed;
  movers = s.movers;
  firsts = set s.firsts f (firsts_at s f + 1);
  heaviest = s.heaviest;
}

-- it is counted there
first_counted : (f q : ℕ) (s : Sums) → f < length s.firsts → firsts_at (with_first f s) q ≡ firsts_at s q + bit (eqb f q)
first_counted f q s h =
    by_cases (eqb f q)
    (λ t. rw (t, ← (eqb-true f q t)) (get_or-set_same s.firsts f (firsts_at s f + 1) 0 h ∙ omega arith))
    (λ t. rw t (get_or-set_other s.firsts f q (firsts_at s f + 1) 0 (λ e. eqb-false f q t (sym e)) ∙ omega arith))

-- all cores
pub mover_done : (row : List Share) (s now : Sums) → MoverPassed row (with_first (first_core (nums row)) s) (total (nums row)) cores_limit now
    → moves (nums row) ≡ true → first_core (nums row) < length s.firsts → OneMore (nums row) s now
mover_done row s now k e l tab was q h =
    mover_more (nums row) tab s now q e (was q h)
    (rw (nums_at row q) (ap (λ (s : Share). s.0) (k.loads.done q (omega arith) h)))
    (ap (λ (ss : List Share). (get_or ss q (share 0)).0) k.fixed)
    (rw (nums_at row q) (k.movers.done q (omega arith) h))
    (ap (λ (ns : List ℕ). get_or ns q 0) k.firsts ∙ first_counted (first_core (nums row)) q s l)
    (rw (nums_at row q) (ap (λ (s : Share). s.0) (k.heaviest.done q (omega arith) h)))
