-- `day_text::store_arrival` meets its contract.
use Rattle.day_text.proofs.Kept.{three}
use Rattle.day_text.proofs.store_arrival.Goals as goal

pub returns : goal.returns
returns c =
    let s = c.args in
    three s.arrivals.now s.i s.time s.task s.length c.store.ensures c.store-2.ensures c.store-3.ensures
