-- Any two answers that a public function's contract allows are equal, and each byte of the buffer.
use Rattle.lists.specs.Settled.{SettledLent}
use Rattle.writing.proofs.Wrote.{settled}
use Rattle.writing.proofs.put_byte.Reads as PutByte
use Rattle.writing.proofs.put_text.Reads as PutText
use Rattle.writing.proofs.put_number.Reads as PutNumber
use Rattle.writing.proofs.put_field.Reads as PutField
use Rattle.writing.proofs.put_signed.Reads as PutSigned
use Rattle.writing.proofs.refused.put_numbered.Reads as PutNumbered
use Rattle.writing.proofs.refused.put_refusal.Reads as PutRefusal

pub put_byte : SettledLent (λ κs e. e.0.now) PutByte.Post
put_byte κs a x y e f p q = settled p q

pub put_text_lem : SettledLent (λ κs e. e.0.now) PutText.Post
put_text_lem κs a x y e f p q = settled p q

pub put_number_lem : SettledLent (λ κs e. e.0.now) PutNumber.Post
put_number_lem κs a x y e f p q = settled p.0 q.0

pub put_field_lem : SettledLent (λ κs e. e.0.now) PutField.Post
put_field_lem κs a x y e f p q = settled p.0 q.0

pub put_signed_lem : SettledLent (λ κs e. e.0.now) PutSigned.Post
put_signed_lem κs a x y e f p q = settled p.0 q.0

pub put_numbered_lem : SettledLent (λ κs e. e.0.now) PutNumbered.Post
put_numbered_lem κs a x y e f p q = settled p.0 q.0

pub put_refusal_lem : SettledLent (λ κs e. e.0.now) PutRefusal.Post
put_refusal_lem κs a x y e f p q = settled p.0 q.0
