use Rattle.std.proofs.Common.{◌≡◌, ◌++◌, vec_items}
use Rattle.std.specs.Iterator.Adapters.{zip_first, zip_second}
use Rattle.std.specs.Slice.Iter.{iter_rest}
use Rattle.transcript.specs.Transcripts.{reply_lines}
use Rattle.transcript.proofs.lines.push_replies.Given as goal

abbrev pub invariant-loop-call : goal.invariant-loop-call
invariant-loop-call l =
    vec_items l.text ++ reply_lines (iter_rest (zip_first l.call-iterator)) (iter_rest (zip_second l.call-iterator))
    ≡ vec_items l.initial.text ++ reply_lines l.calls l.answers
