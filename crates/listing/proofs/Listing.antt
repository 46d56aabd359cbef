-- What is written can be read: a listing says its plan.
use Prim.Native.Nat.{ℕ, zero, suc, ◌≤◌, ◌<◌}
use mathlib.Core.Path.{◌≡◌, refl, sym, ap, ◌∙◌}
use mathlib.Core.Bool.{true, ◌&&◌}
use mathlib.Core.List.{List, [], ◌∷◌, ◌++◌, append_assoc, append-nil, tail-eq_of_cons-eq}
use native.Mathlib.Omega.{arith}
use lib.Dec.{eqb}
use lib.IntN.{ℤ, pos}
use lib.ListN.{length, get_or, get_or-eq_default}
use lib.Seq.{ext_get_or}
use borrow.Author.Tests.{eqb-true, le-ltb}
use Rattle.units.specs.Limits.{cores_limit, tasks_limit}
use Rattle.units.proofs.Units.{nums_long, nums_units}
use Rattle.lists.specs.Lists.{zeros, total}
use Rattle.lists.proofs.Tests.{and_left, and_right}
use Rattle.writing.specs.Ascii.{newline}
use Rattle.writing.specs.Field.{field}
use Rattle.writing.proofs.Decimal.{either}
use Rattle.planning.specs.declared.Line.{Line}
use Rattle.planning.specs.declared.Plan.{Plan}
use Rattle.planning.specs.Plan.{no_line, empty_line, row_of}
use Rattle.lateness.specs.Lateness.{lates_of}
use Rattle.soundness.specs.Rules.{line_empty}
use Rattle.soundness.specs.Plan.{plan_sound}
use Rattle.soundness.proofs.Facts.{ruled}
use Rattle.soundness.proofs.PlannedLines.{zero_row}
use Rattle.dispatch.specs.declared.Record.{Record}
use Rattle.dispatch.specs.Shape.{Good}
use Rattle.planning.specs.Shape.{PlanShaped}
use Rattle.dispatch.proofs.SoundFacts.{sound_facts}
use Rattle.listing.specs.Listing.{head_text, task_text, tasks_text, listing_text}
use Rattle.listing.proofs.Digits.{field_cut}
use Rattle.planning.proofs.Agreed.{line_same}
use Rattle.listing.proofs.Line.{task_cut}

-- the text of a task's line in a list of lines
abbrev line_text : List Line → List ℤ → ℕ → List ℕ
line_text ls lates n = task_text (suc n) (get_or ls n no_line) (get_or lates n (pos 0))

-- some text
task_some : (i : ℕ) (a : Line) (y : ℤ) (t : List ℕ) → [] ≡ task_text i a y ++ t → ⊥
unfolding task_text head_text
task_some i a y t e = let z : ◌≡◌ {A = ℕ} 0 1 = cc in omega arith

-- the lines of one task more, and what follows them
tasks_suc : (ls : List Line) (lates : List ℤ) (n : ℕ) (t : List ℕ) → tasks_text ls lates (suc n) ++ t ≡ tasks_text ls lates n ++ (line_text ls lates n ++ t)
unfolding tasks_text
tasks_suc ls lates n t = append_assoc (tasks_text ls lates n) (line_text ls lates n) t

-- the same lines, as far as n
abbrev Agree : ℕ → List Line → List Line → Type 0
Agree n ls ks = (i : ℕ) → i < n → get_or ls i no_line ≡ get_or ks i no_line

-- and one more
agree_suc : (n : ℕ) (ls ks : List Line) → Agree n ls ks → get_or ls n no_line ≡ get_or ks n no_line → Agree (suc n) ls ks
agree_suc n ls ks all here i h = either i n (all i) (λ k. let e : i ≡ n = omega arith in rw e here)

module _ (ls ks : List Line) (la ka : List ℤ) (wide : (i : ℕ) → length (get_or ls i no_line).shares ≡ length (get_or ks i no_line).shares) where
  -- as many lines are told from a text that starts with them, and so is what follows
  tasks_cut : (n : ℕ) (t u : List ℕ) → tasks_text ls la n ++ t ≡ tasks_text ks ka n ++ u → Agree n ls ks × (t ≡ u)
  unfolding tasks_text
  tasks_cut zero t u e = (λ i h. absurd (omega arith), e)
  tasks_cut (suc n) t u e =
      let before = tasks_cut n (line_text ls la n ++ t) (line_text ks ka n ++ u) (sym (tasks_suc ls la n t) ∙ e ∙ tasks_suc ks ka n u) in
      let here = task_cut (suc n) (suc n) (get_or ls n no_line) (get_or ks n no_line) (get_or la n (pos 0)) (get_or ka n (pos 0)) t u (wide n) before.1 in
      (agree_suc n ls ks before.0 here.1, here.3)

  -- fewer lines are another text
  tasks_fewer : (n m : ℕ) (t : List ℕ) → n < m → tasks_text ls la n ≡ tasks_text ks ka m ++ t → ⊥
  tasks_fewer n zero t h e = omega arith
  tasks_fewer n (suc m) t h e =
      let f = e ∙ tasks_suc ks ka m t in
      either n m
      (λ l. tasks_fewer n m (line_text ks ka m ++ t) l f)
      (λ l.
      let q : m ≡ n = omega arith in
      task_some (suc m) (get_or ks m no_line) (get_or ka m (pos 0)) t
      (tasks_cut n [] (line_text ks ka m ++ t) (append-nil (tasks_text ls la n) ∙ f ∙ ap (λ (k : ℕ). tasks_text ks ka k ++ (line_text ks ka m ++ t)) q)).1)

-- the number of lines is told from their text
tasks_count : (ls ks : List Line) (la ka : List ℤ) (n m : ℕ) → ((i : ℕ) → length (get_or ls i no_line).shares ≡ length (get_or ks i no_line).shares)
    → tasks_text ls la n ≡ tasks_text ks ka m → n ≡ m
tasks_count ls ks la ka n m wide e =
    either n m
    (λ h. absurd (tasks_fewer ls ks la ka wide n m [] h (e ∙ sym (append-nil (tasks_text ks ka m)))))
    (λ h. either m n
    (λ k. absurd (tasks_fewer ks ls ka la (λ i. sym (wide i)) m n [] k (sym e ∙ sym (append-nil (tasks_text ls la n)))))
    (λ k. omega arith))

-- the lines of two plans have as many shares
same_width : (p q : Plan) → PlanShaped p → PlanShaped q → (i : ℕ) → length (get_or p.lines i no_line).shares ≡ length (get_or q.lines i no_line).shares
same_width p q f g i =
    either i tasks_limit
    (λ h. f.shares i h ∙ sym (g.shares i h))
    (λ h. rw (
      get_or-eq_default p.lines no_line {n = i} (omega (arith, f.lines)),
      get_or-eq_default q.lines no_line {n = i}
          (omega (arith, g.lines)),
    ))

-- the lines of a plan's first n tasks
abbrev lines_text : Plan → ℕ → List ℕ
lines_text pl n = tasks_text pl.lines (lates_of pl) n

-- what stands after a listing's number of cores
abbrev after_cores : Plan → List ℕ
after_cores pl = field " common " pl.common ++ (newline ∷ lines_text pl pl.count)

-- a listing in its parts
listing_parts : (pl : Plan) → listing_text pl ≡ field "cores " pl.cores ++ after_cores pl
unfolding listing_text
listing_parts pl = simp append_assoc

-- two plans with one listing have the same cores, common period and number of tasks, and each task the same line
pub listing_determined : (p q : Plan) → PlanShaped p → PlanShaped q → listing_text p ≡ listing_text q
    → (p.cores ≡ q.cores) × (p.common ≡ q.common) × (p.count ≡ q.count) × ((i : ℕ) → i < p.count → get_or p.lines i no_line ≡ get_or q.lines i no_line)
listing_determined p q f g e =
    let wide = same_width p q f g in
    let parts = sym (listing_parts p) ∙ e ∙ listing_parts q in
    let cores = field_cut "cores " p.cores q.cores (after_cores p) (after_cores q) refl refl parts in
    let s = lines_text p p.count in
    let t = lines_text q q.count in
    let common = field_cut " common " p.common q.common (newline ∷ s) (newline ∷ t) refl refl cores.1 in
    let tasks : s ≡ t = tail-eq_of_cons-eq common.1 in
    let count = tasks_count p.lines q.lines (lates_of p) (lates_of q) p.count q.count wide tasks in
    let lines = tasks ∙ ap (lines_text q) (sym count) in
    let ends = append-nil s ∙ lines ∙ sym (append-nil (lines_text q p.count)) in
    (cores.0, common.0, count, (tasks_cut p.lines q.lines (lates_of p) (lates_of q) wide p.count [] [] ends).0)

-- a line whose numbers are all 0 is the empty line
empty_is : (a : Line) → length a.shares ≡ cores_limit → line_empty a ≡ true → a ≡ empty_line
unfolding empty_line
empty_is a long e =
    let c = eqb a.cost.0 0 in
    let t = eqb a.period.0 0 in
    let w = eqb a.weight.0 0 in
    let r = eqb (total (row_of a)) 0 in
    let ctw = and_left (c && t && w) r e in
    let ct = and_left (c && t) w ctw in
    line_same a empty_line
    (eqb-true a.cost.0 0 (and_left c t ct))
    (eqb-true a.period.0 0 (and_right c t ct))
    (eqb-true a.weight.0 0 (and_right (c && t) w ctw))
    (zero_row (row_of a) (eqb-true (total (row_of a)) 0 (and_right (c && t && w) r e))
    ∙ ap zeros (nums_long a.shares cores_limit long)
    ∙ sym (nums_units (zeros cores_limit)))

-- a sound plan's lines past its tasks are empty
past_empty : (pl : Plan) → PlanShaped pl → plan_sound pl ≡ true → (i : ℕ) → pl.count ≤ i → i < tasks_limit → get_or pl.lines i no_line ≡ empty_line
past_empty pl f s i h k = empty_is (get_or pl.lines i no_line) (f.shares i k) (rw (le-ltb i pl.count h) at ((ruled pl s).lines i k))

-- the same lines, from n on
abbrev Past : ℕ → List Line → List Line → Type 0
Past n ls ks = (i : ℕ) → n ≤ i → i < tasks_limit → get_or ls i no_line ≡ get_or ks i no_line

-- so all of them
lines_same : (n : ℕ) (ls ks : List Line) → length ls ≡ tasks_limit → length ks ≡ tasks_limit → Agree n ls ks → Past n ls ks → ls ≡ ks
lines_same n ls ks a b f g = ext_get_or no_line ls ks (a ∙ sym b) (λ i h. either i n (f i) (λ k. g i k (omega arith)))

-- sound plans with one listing are one plan
pub plan_determined : (p q : Plan) → PlanShaped p → PlanShaped q → plan_sound p ≡ true → plan_sound q ≡ true → listing_text p ≡ listing_text q → p ≡ q
plan_determined p q f g s t e =
    let same = listing_determined p q f g e in
    let past : Past p.count p.lines q.lines = λ i h k. past_empty p f s i h k ∙ sym (past_empty q g t i (omega (arith, same.2)) k) in
    let lines = lines_same p.count p.lines q.lines f.lines g.lines same.3 past in
    λ i. record { cores = same.0 i; count = same.2 i; common = same.1 i; lines = lines i }

-- so a sound record's listing says its plan
pub record_determined : (r s : Record) → Good r → Good s → listing_text r.plan ≡ listing_text s.plan → r.plan ≡ s.plan
record_determined r s f g e =
    plan_determined r.plan s.plan f.shaped.plan g.shaped.plan (sound_facts r f.sound).plan (sound_facts s g.sound).plan e
