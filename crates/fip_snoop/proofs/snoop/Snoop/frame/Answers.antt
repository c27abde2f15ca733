use Rattle.std.proofs.Common.{◌∷◌, ◌∙◌, sym, ap, subst}
use mathlib.Core.Bool.{false≢true}
use Rattle.heard_frames.specs.Heard.{decoded}
use Rattle.heard_frames.specs.View.{view}
use Rattle.fip_snoop.specs.Snoop.{Contents, way_for, Remembers}
use Rattle.fip_snoop.specs.declared.way.Way.{Way}
use Rattle.fip_snoop.proofs.FrameLemmas.{frame_way, frame_kept}
use Rattle.fip_snoop.proofs.KnownLemmas.{known_already, data_is_known}
use Rattle.fip_snoop.proofs.snoop.Snoop.frame.Goals as goal

pub returns-clause-way : goal.returns-clause-way
returns-clause-way c w L r =
    let what = view c.hear-heard.result.what in
    let is = c.hear-heard.result.decoded ∙ ap decoded c.hear-heard.ensures.caught in
    let kept = ap (λ (s : Contents). way_for s.forwarder s.homes s.bindings c.args.port what) c.self.view_is in
    frame_way w L c.args.self.now c.args.port c.args.caught.now what c.way_for-way.result r is (c.way_for-way.ensures ∙ kept)

pub returns-clause-remembers : goal.returns-clause-remembers
returns-clause-remembers c w L r =
    let what = view c.hear-heard.result.what in
    let is = c.hear-heard.result.decoded ∙ ap decoded c.hear-heard.ensures.caught in
    frame_kept w L c.args.self.now c.remember.new.self c.args.port c.args.caught.now what c.way_for-way.result r is c.in_ok-remember.ensures.ok

pub returns-in_err-remember-clause-data : goal.returns-in_err-remember-clause-data
returns-in_err-remember-clause-data c f read of_data =
    let is = c.hear-heard.result.decoded ∙ ap decoded c.hear-heard.ensures.caught in
    absurd (false≢true (c.in_err-remember.ensures.known (data_is_known (view c.hear-heard.result.what) f c.args.port c.way_for-way.result c.args.self.now c.args.caught.now read is of_data)))

pub returns-in_err-remember-clause-known : goal.returns-in_err-remember-clause-known
returns-in_err-remember-clause-known c w L r more =
    let what = view c.hear-heard.result.what in
    let is = c.hear-heard.result.decoded ∙ ap decoded c.hear-heard.ensures.caught in
    let kept = ap (λ (s : Contents). way_for s.forwarder s.homes s.bindings c.args.port what) c.self.view_is in
    let way = frame_way w L c.args.self.now c.args.port c.args.caught.now what c.way_for-way.result r is (c.way_for-way.ensures ∙ kept) in
    let own = subst (λ (v : Way). Remembers w (record { port = c.args.port; caught = c.args.caught.now; way = v } ∷ L) c.args.self.now) (sym way) more in
    absurd (false≢true (c.in_err-remember.ensures.known (known_already w L c.args.self.now c.args.port c.args.caught.now what c.way_for-way.result is own)))
