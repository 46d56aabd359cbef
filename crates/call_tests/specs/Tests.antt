-- What each call tests: 0, or the refusal's number. Task and core numbers are from 1.
use Rattle.std.specs.Prelude.{ℕ, Bool, cond, not, ◌||◌, ltb, eqb}
use Rattle.units.specs.Limits.{clock_limit, runs_limit}
use Rattle.units.specs.Refusals.{past_no, backlog_no, no_run_no, clock_no, unsound_no}

-- 7 and 13: a number 0 or above n
abbrev pub outside : ℕ → ℕ → Bool
outside n i = eqb i 0 || ltb n i

-- 12: the call's time is above the clock's limit; 8: it is below the stored clock
abbrev pub time_tests : ℕ → ℕ → ℕ
time_tests clock t = cond (ltb clock_limit t) clock_no (cond (ltb t clock) past_no 0)

-- what each call tests first: 15, the number for a wrong task or core i, 12, 8
abbrev pub shared_tests : Bool → ℕ → ℕ → ℕ → ℕ → ℕ → ℕ
shared_tests sound wrong n i clock t = cond (not sound) unsound_no (cond (outside n i) wrong (time_tests clock t))

-- a release, after them: 12, its release time is above the clock's limit; 10, 8 runs of its task are unfinished
abbrev pub release_tests : ℕ → ℕ → ℕ
release_tests released live = cond (ltb clock_limit released) clock_no (cond (eqb live runs_limit) backlog_no 0)

-- a finish: 11, its task has no unfinished run, or the oldest is held
abbrev pub finish_tests : ℕ → Bool → ℕ
finish_tests live held = cond (eqb live 0 || held) no_run_no 0
