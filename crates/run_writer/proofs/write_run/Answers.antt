-- `write_run` meets its contract. Assumes nothing.
use borrow.Author.Rules.{rules}
use Rattle.trace.specs.Trace.{size}
use Rattle.run_writer.proofs.Runs.{written_start, written-let-in, writes-run}
use Rattle.run_writer.proofs.write_run.Goals as goal

pub write_walk-at-requires : goal.write_walk-at-requires
write_walk-at-requires c =
    let (few, low, x) = c.requires in
    let (y, none) = c.begin_without.ensures in
    record {
      trace = x.trace;
      count = x.count;
      few = x.few;
      places = x.places;
      out = x.out;
      base = _;
      written = written_start x.left_out y none c.below-all.ensures (search rules);
    }

pub write_walk-requires : goal.write_walk-requires
write_walk-requires c =
    let (few, low, x) = c.requires in
    let (y, none) = c.begin_without.ensures in
    let start = written_start x.left_out y none c.below-all.ensures (search rules) in
    let w = c.write_walk-at.ensures x.trace x.count x.out _ x.few x.places start in
    record {
      trace = x.trace;
      count = x.count;
      few = x.few;
      places = x.places;
      out = size x.trace;
      base = w.more;
      written = written-let-in x.left_out y w c.let_in.ensures c.with-own.ensures;
    }

pub returns : goal.returns
returns c =
    λ t n b small places left.
    let (few, low, x) = c.requires in
    let (y, none) = c.begin_without.ensures in
    let start = written_start left y none c.below-all.ensures (search rules) in
    let w = c.write_walk-at.ensures t n b _ small places start in
    let own = written-let-in left y w c.let_in.ensures c.with-own.ensures in
    writes-run left y w (c.write_walk.ensures t n (size t) w.more small places own)
