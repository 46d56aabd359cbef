-- `front_rows::store_front` meets its contract.
use Prim.Native.Nat.{ℕ, ◌+◌, ◌*◌}
use mathlib.Core.Path.{◌≡◌}
use mathlib.Core.List.{List}
use lib.ListN.{set}
use Rattle.fronts.specs.declared.Front.{Front}
use Rattle.front_rows.specs.Rows.{put_front}
use Rattle.front_rows.proofs.store_front.Goals as goal

-- seven stores are those of a front
seven : (xs : List ℕ) (i : ℕ) (f : Front) {a b c d e g h : List ℕ} → a ≡ set xs (7 * i) f.core → b ≡ set a (7 * i + 1) f.release.0
    → c ≡ set b (7 * i + 2) f.key → d ≡ set c (7 * i + 3) f.length → e ≡ set d (7 * i + 4) f.run
    → g ≡ set e (7 * i + 5) f.last.0 → h ≡ set g (7 * i + 6) f.period → h ≡ put_front xs i f
seven xs i f p q r s t u v = rw (v, u, t, s, r, q, p)

pub returns : goal.returns
returns c =
    let s = c.args in
    seven s.fronts.now s.i s.front c.store.ensures c.store-2.ensures c.store-3.ensures c.store-4.ensures
    c.store-5.ensures c.store-6.ensures c.store-7.ensures
