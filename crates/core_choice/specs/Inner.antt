-- For the contract of a private function alone. It stands for no rule of document 01.
use Rattle.std.specs.Prelude.{ℕ, cond, eqb}

-- the kind of a choice by its task's key: an upper mover, a lower one, a fixed task
abbrev pub kind_by : ℕ → ℕ
kind_by key = cond (eqb key 0) 3 (cond (eqb key 1) 2 1)
