use Rattle.std.proofs.lemmas.Slice.Zip.{Zip-more, either_empty_from_Zip}
use Rattle.transcript.proofs.Replies.{lines_all, lines_more}
use Rattle.transcript.proofs.lines.push_replies.Goals as goal

pub loop-call-preserved : goal.loop-call-preserved
loop-call-preserved c =
    let more =
    Zip-more c.loop-call.call-iterator c.next.new.self c.next.result (c.in-Some.call, c.in-Some.reply)
    c.in-Some.is c.next.ensures.steps
    in
    lines_more c.in-Some.call.now c.in-Some.reply.now _ _ _ _ c.loop-call.text.items _ _ more.0 more.1
    c.in_ok-push_reply.ensures c.loop-call.invariant

pub returns : goal.returns
returns c =
    let none =
    either_empty_from_Zip c.loop-call.call-iterator c.next.new.self c.next.result c.in-None.is c.next.ensures.steps
    in
    lines_all _ _ c.loop-call.text.items _ none c.loop-call.invariant
