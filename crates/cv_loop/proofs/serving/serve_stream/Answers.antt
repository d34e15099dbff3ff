use Rattle.std.proofs.Common.{◌≡◌, ◌≢◌, true, false, [], ◌∙◌, sym, ap, refl, arith, length}
use Rattle.std.proofs.lemmas.Bool.Decides.{nat_tests}
use Rattle.std.proofs.lemmas.List.{nil_from_length}
use Rattle.std.proofs.lemmas.Result.{err_from_is_err_and}
use Rattle.cv_loop.proofs.Streams.{Standing-none, Standing-more, Serving-unread, Serving-ok, Serving-truncated}
use Rattle.cv_loop.proofs.Streams.{Serving-stops, Serving-reads, at_the_end, before_the_end, unread_says, stopped_says}
use Rattle.cv_loop.proofs.serving.serve_stream.Goals as goal

differ : true ≢ false
differ e = absurd cc

pub loop-read-init : goal.loop-read-init
loop-read-init g c = record {
  pulls = c.requires.pulls;
  goes_on = c.requires.fresh_reader.0;
  reads = c.requires.fresh_reader.1;
  writes = c.requires.fresh_writer;
  ready = c.requires.ready;
  stands = rw c.new-buffer.ensures (Standing-none _ _ _);
}

pub returns-in_err-read_more : goal.returns-in_err-read_more
returns-in_err-read_more g c =
    let p = err_from_is_err_and c.from_residual.result c.from_residual.ensures.1 in
    let b = c.in_err-read_more.ensures.bytes in
    let says = unread_says _ _ _ _ _ _ _ c.loop-read.invariant.writes b.2 in
    rw (p.1, p.2) (record {
      serves = Serving-unread _ _ _ _ _ _ _ _ _ _ b.0 _ _ _ _ _ _ _ c.loop-read.invariant.stands b.1 b.2;
      ends = record {
        met_end = says.0;
        none_left = λ t. absurd (differ (sym t ∙ says.3));
        read_failed = says.1;
        write_failed = says.2;
        reads = omega (arith, c.in_err-read_more.ensures.pulls, c.loop-read.invariant.pulls);
      };
      ready = c.loop-read.invariant.ready;
    })

pub returns-then-is_empty : goal.returns-then-is_empty
returns-then-is_empty g c =
    let b = c.in_ok-read_more.ensures.bytes in
    let e = at_the_end _ _ _ _ _ _ c.if-not-branch.true b.2 in
    let empty : c.read_more.new.self ≡ [] = nil_from_length _ (grind (arith, nat_tests)) in
    record {
      serves = Serving-ok _ _ _ _ _ _ _ _ _ b.0 _ _ _ _ _ c.loop-read.invariant.stands b.1 e.0 (sym e.1 ∙ empty) refl;
      ends = record {
        met_end = e.2;
        none_left = λ t. c.in_ok-read_more.ensures.end c.if-not-branch.true;
        read_failed = e.3;
        write_failed = c.loop-read.invariant.writes;
        reads = omega (arith, c.in_ok-read_more.ensures.counts, c.loop-read.invariant.pulls);
      };
      ready = c.loop-read.invariant.ready;
    }

pub returns-then-not-branch : goal.returns-then-not-branch
returns-then-not-branch g c =
    let b = c.in_ok-read_more.ensures.bytes in
    let e = at_the_end _ _ _ _ _ _ c.if-not-branch.true b.2 in
    let some : c.loop-read.buffer ≢ [] = λ (h : c.loop-read.buffer ≡ []).
    let len : length c.read_more.new.self ≡ 0 = ap length (e.1 ∙ h) in grind (arith, nat_tests, len) in
    record {
      serves = Serving-truncated _ _ _ _ _ _ _ _ b.0 _ _ _ _ _ c.loop-read.invariant.stands b.1 e.0 some;
      ends = record {
        met_end = e.2;
        none_left = λ t. c.in_ok-read_more.ensures.end c.if-not-branch.true;
        read_failed = e.3;
        write_failed = c.loop-read.invariant.writes;
        reads = omega (arith, c.in_ok-read_more.ensures.counts, c.loop-read.invariant.pulls);
      };
      ready = c.loop-read.invariant.ready;
    }

pub returns-in_err-used : goal.returns-in_err-used
returns-in_err-used g c =
    let p = err_from_is_err_and c.from_residual-in_err-used.result c.from_residual-in_err-used.ensures.1 in
    let b = c.in_ok-read_more.ensures.bytes in
    let more = before_the_end _ _ _ _ _ _ c.if-not-branch.false b.2 in
    let says = stopped_says _ _ _ _ _ _ _ _ _ _ more.1 more.2 c.in_err-used.ensures.err in
    rw (p.1, p.2) (record {
      serves = Serving-stops _ _ _ _ _ _ _ _ _ _ _ _ b.0 _ _ _ _ _ _ c.loop-read.invariant.stands b.1
          (c.as_slice-bytes.ensures ∙ more.0) c.in_err-used.ensures.err;
      ends = record {
        met_end = says.0;
        none_left = λ t. absurd (differ (sym t ∙ says.3));
        read_failed = says.1;
        write_failed = says.2;
        reads = omega (arith, c.in_ok-read_more.ensures.counts, c.loop-read.invariant.pulls);
      };
      ready = c.in_err-used.ensures.ready;
    })

pub loop-read-preserved : goal.loop-read-preserved
loop-read-preserved g c =
    let b = c.in_ok-read_more.ensures.bytes in
    let more = before_the_end _ _ _ _ _ _ c.if-not-branch.false b.2 in
    record {
      pulls = omega (arith, c.in_ok-read_more.ensures.counts, c.loop-read.invariant.pulls);
      goes_on = more.1;
      reads = more.2;
      writes = c.in_ok-used.ensures.works;
      ready = c.in_ok-used.ensures.ready;
      stands = rw (c.forget.ensures, ← c.as_slice-bytes.ensures)
          (Standing-more _ _ _ _ _ _ _ _ _ _ _ b.0 _ _ _ _ _ _ c.loop-read.invariant.stands b.1
          (c.as_slice-bytes.ensures ∙ more.0) more.3 c.in_ok-used.ensures.ok c.in_ok-used.ensures.end);
    }

pub returns-clause-serves : goal.returns-clause-serves
returns-clause-serves g c = Serving-reads _ _ _ _ _ _ _ _ _ _ _ _ c.loop-read.invariant.stands
    (omega (arith, c.loop-read.invariant.pulls)) (omega arith)
