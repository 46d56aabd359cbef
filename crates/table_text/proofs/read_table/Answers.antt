-- `table_text::read_table` meets its contract.
use Rattle.table_text.proofs.Says.{gives_line, gives_table, table_says, table_line}
use Rattle.table_text.proofs.read_table.Goals as goal

pub returns-in-Some : goal.returns-in-Some
returns-in-Some c =
    let w = gives_line _ c.args.table.now (table_line c.args.text.now c.args.cores _ c.in-Some.ensures) in
    record { value = w.0; table_after = w.1 }

pub returns : goal.returns
returns c =
    let n = c.store_tasks-count in
    let w = gives_table c.args.cores n.result _ c.args.table.now n.new.table
    (table_says c.args.text.now c.args.cores _ c.in_default.ensures) n.ensures.value n.ensures.table_after in
    record { value = w.0; table_after = w.1 }
