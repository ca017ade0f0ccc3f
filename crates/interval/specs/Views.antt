-- What the code's own lists of at most 16 places hold: the first `count` of them.
use Rattle.std.specs.Prelude.{List, take, Float}
use Rattle.interval.specs.declared.Interval.{Interval}
use Rattle.interval.specs.declared.domain.Domain.{Domain}
use Rattle.interval.specs.declared.point.Point.{Point}

abbrev pub intervals_of : Domain → List Interval
intervals_of d = take d.count.n d.boxes

abbrev pub values_of : Point → List Float
values_of p = take p.count.n p.values
