-- Each piece stands behind what came before.
use Rattle.std.specs.Prelude.{◌++◌, []}
use Rattle.std.proofs.Common.{arith}
use Rattle.dp_log_tests.proofs.Pieced.{few_more, small_more}
use Rattle.dp_log_tests.proofs.pieces.in_pieces.Goals as goal

pub loop-came-init : goal.loop-came-init
loop-came-init g c = record { within = omega arith; behind = ([], c.requires.begun, omega arith) }

pub feed-requires : goal.feed-requires
feed-requires g c = (
  c.loop-came.invariant.behind.0,
  c.loop-came.invariant.behind.1,
  small_more c.loop-came.invariant.behind.0 c.piece_of-piece.result.now c.loop-came.came _ c.loop-came.invariant.behind.2 c.piece_of-piece.ensures.within c.requires.few,
)

pub loop-came-preserved : goal.loop-came-preserved
loop-came-preserved g c = record {
  within = c.piece_of-piece.ensures.within;
  behind = (
    c.loop-came.invariant.behind.0 ++ c.piece_of-piece.result.now,
    c.in_ok-answer.ensures.going c.in-None.is c.loop-came.invariant.behind.0 c.loop-came.invariant.behind.1,
    few_more c.loop-came.invariant.behind.0 c.piece_of-piece.result.now c.loop-came.came c.loop-came.invariant.behind.2,
  );
}

pub finish-requires : goal.finish-requires
finish-requires g c = (c.loop-came.invariant.behind.0, c.loop-came.invariant.behind.1)
