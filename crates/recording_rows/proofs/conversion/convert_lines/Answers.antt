use Rattle.std.proofs.Common.{[]}
use Rattle.std.proofs.lemmas.Result.{on_ok_weaker}
use Rattle.csv.proofs.WriteFacts.{appends-none}
use Rattle.recording_rows.proofs.Sent.{sent_all, sent_more}
use Rattle.recording_rows.proofs.conversion.convert_lines.Goals as goal

pub loop-feed-init : goal.loop-feed-init
loop-feed-init g c = ([], appends-none (g.W.Write.contents c.args.output.now), c.requires)

pub loop-feed-preserved : goal.loop-feed-preserved
loop-feed-preserved g c =
    let (sent, took, ends) = c.loop-feed.invariant in
    sent_more (g.W.Write.contents c.args.output.now) (g.W.Write.contents c.loop-feed.output) (g.W.Write.contents c.send_block.new.output)
    c.convert_line.new.rows c.send_block.new.self sent took (c.in_ok-convert_line.ensures sent ends) c.in_ok-send_block.ensures

pub returns-then-not-branch : goal.returns-then-not-branch
returns-then-not-branch g c =
    let (sent, took, ends) = c.loop-feed.invariant in
    on_ok_weaker c.end.result
    (λ last. sent_all (g.W.Write.contents c.args.output.now) (g.W.Write.contents c.loop-feed.output) (g.W.Write.contents c.end.new.output)
    c.convert_line.new.rows sent took (c.in_ok-convert_line.ensures sent ends) last) c.end.ensures.bytes

pub returns : goal.returns
returns g c =
    let (sent, took, ends) = c.loop-feed.invariant in
    on_ok_weaker c.end-2.result
    (λ last. sent_all (g.W.Write.contents c.args.output.now) (g.W.Write.contents c.loop-feed.output) (g.W.Write.contents c.end-2.new.output)
    c.loop-feed.rows sent took ends last) c.end-2.ensures.bytes
