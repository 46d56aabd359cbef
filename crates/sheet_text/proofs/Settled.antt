-- Any two answers that a public function's contract allows are equal, and each number and byte that was lent.
use Prim.Native.Nat.{ℕ}
use mathlib.Core.Path.{◌≡◌, sym, ap, ◌∙◌}
use Rattle.std.specs.declared.result.Result.{Result}
use Rattle.std.specs.declared.result.Result.TheVariants.{Ok, Err}
use Rattle.lists.specs.Settled.{SettledLent}
use Rattle.units.specs.declared.refusal.Reason.{Reason}
use Rattle.units.proofs.Refusals.{same_reason}
use Rattle.writing.proofs.Wrote.{settled}
use Rattle.sheet_text.specs.declared.sheet.SheetRead.{SheetRead}
use Rattle.sheet_text.specs.Sheet.{Reading, reading_told}
use Rattle.sheet_text.proofs.Answered.{no_reading, same_read}
use Rattle.sheet_text.proofs.job.put_names.Reads as PutNames
use Rattle.sheet_text.proofs.sheet.read_sheet.Reads as ReadSheet

pub put_names_lem : SettledLent (λ κs e. e.1.1.0.now) PutNames.Post
put_names_lem κs a x y e f p q = settled p q

same_number : {m n : ℕ} → ◌≡◌ {A = Reading} (Err m) (Err n) → m ≡ n
same_number e = cc

-- an answer is settled by what it tells
settled_reading : (x y : Result SheetRead Reason) → reading_told x ≡ reading_told y → x ≡ y
settled_reading (Ok a) (Ok b) e = ap (λ (r : SheetRead). Ok r) (same_read e)
settled_reading (Ok a) (Err s) e = no_reading e
settled_reading (Err r) (Ok b) e = no_reading (sym e)
settled_reading (Err r) (Err s) e = ap (λ (t : Reason). Err t) (same_reason r s (same_number e))

pub read_sheet_lem : SettledLent (λ κs e. e.1.0.now) ReadSheet.Post
read_sheet_lem κs a x y e f p q = (settled_reading x y (p.0 ∙ sym q.0), p.1 ∙ sym q.1)
