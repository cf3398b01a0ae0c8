-- The limits first, since past them N is not counted. Assumes nothing.
use Rattle.counts.proofs.GeoLaws.{limits}
use Rattle.session_agree.proofs.sizes_ok.Goals as goal

pub crash_counts-requires : goal.crash_counts-requires
crash_counts-requires c = (limits c.args.s.geo (cc)).t_high
