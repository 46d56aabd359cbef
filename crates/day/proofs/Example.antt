-- Days that the definition says, by computing it.
use Prim.Native.Nat.{ℕ}
use mathlib.Core.Path.{◌≡◌, refl}
use mathlib.Core.List.{List, [], ◌∷◌, ◌++◌}
use lib.IntN.{pos, negsuc}
use Rattle.units.specs.Units.{ticks}
use Rattle.planning.specs.declared.Plan.{Plan}
use Rattle.planning.specs.Plan.{plan_of}
use Rattle.writing.specs.Ascii.{ascii}
use Rattle.writing.specs.Decimal.{decimal_f, decimal_of, signed_of}
use Rattle.release_order.proofs.Example.{defs}
use Rattle.run_lengths.specs.Work.{fresh_work, with_length, without_length}
use Rattle.day_lines.specs.declared.Event.TheVariants.{Finished, Refused, Spanned, Stopped, Unfinished}
use Rattle.day_lines.specs.Lines.{finish_text, refused_text, span_text, stop_text, unfinished_text, event_text}
use Rattle.day_rules.specs.Day.{start_day, ran, taken, look_at, run_on, finished, day_at, events_of, day_text}

-- three tasks of cost 2 and period 3 on two cores
abbrev thrice : Plan
thrice = (plan_of 2 (2 ∷ 3 ∷ 2 ∷ 3 ∷ 2 ∷ 3 ∷ [])).plan

-- each comes once, at 0
pub three_jobs : events_of thrice (0 ∷ 1 ∷ 2 ∷ 0 ∷ 2 ∷ 2 ∷ 0 ∷ 3 ∷ 2 ∷ []) 4
    ≡ Finished (ran 0 3 1) (ticks 2) (negsuc 0)
    ∷ Finished (ran 1 2 1) (ticks 2) (negsuc 0)
    ∷ Spanned (ran 0 3 1) (ticks 0) (ticks 2)
    ∷ Spanned (ran 1 2 1) (ticks 0) (ticks 2)
    ∷ Finished (ran 0 1 1) (ticks 4) (pos 1)
    ∷ Spanned (ran 0 1 1) (ticks 2) (ticks 4)
    ∷ Stopped (ticks 4)
    ∷ []
unfolding defs events_of day_at start_day taken look_at run_on finished fresh_work with_length without_length
three_jobs = refl

-- as text
pub three_text : day_text thrice (0 ∷ 1 ∷ 2 ∷ 0 ∷ 2 ∷ 2 ∷ 0 ∷ 3 ∷ 2 ∷ []) 4
    ≡ ascii "finish core 1 task 3 run 1 at 2 late -1\nfinish core 2 task 2 run 1 at 2 late -1\n"
    ++ ascii "span core 1 task 3 run 1 from 0 to 2\nspan core 2 task 2 run 1 from 0 to 2\n"
    ++ ascii "finish core 1 task 1 run 1 at 4 late 1\nspan core 1 task 1 run 1 from 2 to 4\nstop 4\n"
unfolding event_text finish_text span_text stop_text decimal_f decimal_of signed_of
three_text = rw three_jobs refl

-- one task of cost 1 and period 2 on one core
abbrev one : Plan
one = (plan_of 1 (1 ∷ 2 ∷ [])).plan

-- nine arrivals at 0
abbrev nine : List ℕ
nine =
    0 ∷ 1 ∷ 1 ∷ 0 ∷ 1 ∷ 1 ∷ 0 ∷ 1 ∷ 1
    ∷ 0 ∷ 1 ∷ 1 ∷ 0 ∷ 1 ∷ 1 ∷ 0 ∷ 1 ∷ 1
    ∷ 0 ∷ 1 ∷ 1 ∷ 0 ∷ 1 ∷ 1 ∷ 0 ∷ 1 ∷ 1 ∷ []

-- the ninth is refused by 10, two finish, six are held
pub nine_at_once : events_of one nine 3
    ≡ Refused 10 9 1 (ticks 0)
    ∷ Finished (ran 0 1 1) (ticks 1) (negsuc 0)
    ∷ Spanned (ran 0 1 1) (ticks 0) (ticks 1)
    ∷ Finished (ran 0 1 2) (ticks 3) (negsuc 0)
    ∷ Spanned (ran 0 1 2) (ticks 2) (ticks 3)
    ∷ Stopped (ticks 3)
    ∷ Unfinished (ran 0 1 3) (ticks 6) 0 1
    ∷ Unfinished (ran 0 1 4) (ticks 8) 0 1
    ∷ Unfinished (ran 0 1 5) (ticks 10) 0 1
    ∷ Unfinished (ran 0 1 6) (ticks 12) 0 1
    ∷ Unfinished (ran 0 1 7) (ticks 14) 0 1
    ∷ Unfinished (ran 0 1 8) (ticks 16) 0 1
    ∷ []
unfolding defs events_of day_at start_day taken look_at run_on finished fresh_work with_length without_length
nine_at_once = refl

-- as text
pub nine_text : day_text one nine 3
    ≡ ascii "refused 10 arrival 9 task 1 at 0\nfinish core 1 task 1 run 1 at 1 late -1\nspan core 1 task 1 run 1 from 0 to 1\n"
    ++ ascii "finish core 1 task 1 run 2 at 3 late -1\nspan core 1 task 1 run 2 from 2 to 3\nstop 3\n"
    ++ ascii "unfinished task 1 run 3 core 1 deadline 6 had 0 of 1\nunfinished task 1 run 4 core 1 deadline 8 had 0 of 1\n"
    ++ ascii "unfinished task 1 run 5 core 1 deadline 10 had 0 of 1\nunfinished task 1 run 6 core 1 deadline 12 had 0 of 1\n"
    ++ ascii "unfinished task 1 run 7 core 1 deadline 14 had 0 of 1\nunfinished task 1 run 8 core 1 deadline 16 had 0 of 1\n"
unfolding event_text refused_text finish_text span_text stop_text unfinished_text decimal_f decimal_of signed_of
nine_text = rw nine_at_once refl
