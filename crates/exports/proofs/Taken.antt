-- What a call promises of an answer that is not a refusal.
use mathlib.Core.Path.{◌≡◌, sym}
use Rattle.std.specs.Prelude.{Ok}
use Rattle.exports.specs.declared.After.{After}

-- what is promised of a call's answer is promised of the value that it gives, wherever that is stored
pub taken : {V E R : Type 0} (P : After V E R → Type 0) (x : After V E R) (v w : V)
    → P x → x.answer ≡ Ok v → w ≡ v → P (record { answer = Ok w; next = x.next })
taken P x v w promised given stored = rw (stored, sym given) promised
