-- `sheet_text::sheet::named_twice` meets its contract.
use Prim.Native.Nat.{◌≤◌}
use mathlib.Core.Path.{sym}
use native.Mathlib.Omega.{arith}
use lib.ListN.{length}
use lib.Seq.{length-take-le}
use Rattle.writing.proofs.Wrote.{kept}
use Rattle.sheet_text.proofs.Says.{names_fit, told}
use Rattle.sheet_text.proofs.sheet.named_twice.Goals.{After-put_names-n}
use Rattle.sheet_text.proofs.sheet.named_twice.Goals as goal

-- the names fit their buffer
fits : (c : After-put_names-n) → c.put_names-n.result ≤ length c.put_names-n.new.buf
fits c =
    let n = c.put_names-n.ensures in
    omega (arith, kept n, n.end, names_fit _ c.args.from c.requires.0 c.requires.1)

pub slice_bounds-names-end : goal.slice_bounds-names-end
slice_bounds-names-end c = fits (goal.at.slice_bounds-names-end c).After-put_names-n

pub slice_bounds-name_twice-end : goal.slice_bounds-name_twice-end
slice_bounds-name_twice-end c = sym (length-take-le _ _ (fits (goal.at.slice_bounds-name_twice-end c).After-put_names-n))

pub returns : goal.returns
returns c = told _ _ c.requires.0 c.requires.1 c.put_names-n.ensures (omega arith) c.name_twice.ensures
