-- Any two answers that a public function's contract allows are equal, and each byte that was lent.
use Prim.Native.Nat.{ℕ}
use mathlib.Core.Path.{◌≡◌, sym, ap, ◌∙◌}
use Rattle.std.specs.declared.result.Result.{Result}
use Rattle.std.specs.declared.result.Result.TheVariants.{Ok, Err}
use Rattle.lists.specs.Settled.{SettledLent}
use Rattle.units.specs.declared.refusal.Refusal.{Refusal as Refused}
use Rattle.units.proofs.Refusals.{refuses, same_refusal}
use Rattle.sheet_writing.specs.Write.{Written, writing_told}
use Rattle.sheet_writing.proofs.write_sheet.Reads as WriteSheet

-- an answer is settled by what it tells
settled : (x y : Result ℕ Refused) → writing_told x ≡ writing_told y → x ≡ y
settled (Ok a) (Ok b) e = ap (λ (w : Written). Ok w.length) e
settled (Ok a) (Err s) e = refuses s.reason (sym (ap (λ (w : Written). w.refusal.no) e))
settled (Err r) (Ok b) e = refuses r.reason (ap (λ (w : Written). w.refusal.no) e)
settled (Err r) (Err s) e = ap (λ (t : Refused). Err t) (same_refusal r s (ap (λ (w : Written). w.refusal) e))

pub write_sheet_lem : SettledLent (λ κs e. e.1.1.1.1.0.now) WriteSheet.Post
write_sheet_lem κs a x y e f p q = (settled x y (p.0 ∙ sym q.0), p.1 ∙ sym q.1)
