-- The part of a text that is a name: from its place up to the byte that ends it.
use Rattle.std.specs.declared.option.Option.TheVariants.{Some}
use Prim.Native.Nat.{ℕ, ◌+◌, ◌-◌, ◌≤◌, ◌<◌}
use mathlib.Core.Path.{◌≡◌, refl, ap}
use mathlib.Core.List.{List, ◌∷◌}
use native.Mathlib.Omega.{arith}
use lib.ListN.{length, take, drop}
use lib.Seq.{take_at}
use Rattle.scanning.specs.Lines.{unless_zero}
use Rattle.scanning.proofs.Sought.{told}
use Rattle.names.specs.Name.{letters_limit, name_at, name_end}
use Rattle.names.proofs.Written.{name_ahead, name_read}

-- it lies within the text, is the name, and has at most twelve letters
pub record Parted (s : List ℕ) (at next : ℕ) : Type 0 where
  pub from : at ≤ next - 1
  pub to : next - 1 ≤ length s
  pub is : take (next - 1 - at) (drop at s) ≡ name_at s at
  pub few : length (take (next - 1 - at) (drop at s)) ≤ letters_limit
  pub ahead : length (take (next - 1 - at) (drop at s)) ≡ next - 1 - at
  pub far : at + 2 ≤ next
  pub ends : next ≤ length s

-- where a name was read
pub parted : (s : List ℕ) (e at : ℕ) {next : ℕ} → 0 < e → Some next ≡ unless_zero (name_end s e at) → Parted s at next
parted s e at {next} p q =
    let r = name_read s e at p (told q).1 in
    let k : next - 1 - at ≡ length (name_at s at) = omega (arith, (told q).0, r.1) in
    let part : take (next - 1 - at) (drop at s) ≡ name_at s at =
    rw (k, r.3) (take_at (name_at s at) (e ∷ drop (name_end s e at) s) (length (name_at s at)) refl) in
    let far : at + 2 ≤ next = omega (arith, (told q).0, name_ahead s e at (told q).1) in
    let ends : next ≤ length s = omega (arith, (told q).0, r.2) in
    record {
      from = omega (arith, far);
      to = omega (arith, ends);
      is = part;
      few = omega (arith, ap length part, r.0.few);
      ahead = omega (arith, ap length part, k);
      far = far;
      ends = ends;
    }
