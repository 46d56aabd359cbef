-- `writing::put_cut`: the number falls.
use Rattle.writing.proofs.+put_cut.Given as goal

abbrev pub decreases-put_cut : goal.decreases-put_cut
decreases-put_cut l = l.n
