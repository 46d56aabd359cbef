-- When a run is released, document 02, R-2.
use Rattle.std.specs.Prelude.{ℕ, ◌+◌, ◌-◌, Bool, cond, ◌&&◌, ltb, eqb}

-- a release at time t: then, or the last release time plus T where that is later, for a task that has had one
abbrev pub release_time : ℕ → ℕ → ℕ → ℕ → ℕ
release_time had last period t = cond (eqb had 1 && ltb t (last + period)) (last + period) t

-- a stored run's release time: its deadline less the time from release to deadline
abbrev pub released_at : ℕ → ℕ → ℕ
released_at after deadline = deadline - after

-- a run is held at an instant x while its release time lies above x
abbrev pub held_at : ℕ → ℕ → ℕ → Bool
held_at after deadline x = ltb x (released_at after deadline)
