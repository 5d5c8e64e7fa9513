use Rattle.std.proofs.Common.{ap, subst, sym, ◌∙◌}
use Rattle.std.specs.Prelude.{IfSome}
use Rattle.host_server.specs.Waiting.{added}
use Rattle.host_server.specs.Serving.{Goes, TellsOf}
use Rattle.host_server.proofs.Served.{goes_first, goes_one}
use Rattle.host_server.proofs.server.Server.settle.Goals as goal

pub returns-in_err-settled : goal.returns-in_err-settled
returns-in_err-settled g c =
    goes_first g.H.Hosts.content g.H.Hosts.room g.H.Hosts.IsTold c.args.self.now c.take_told.new.self c.args.pending.now c.take_told.ensures.kept

pub returns-in_default : goal.returns-in_default
returns-in_default g c =
    goes_first g.H.Hosts.content g.H.Hosts.room g.H.Hosts.IsTold c.args.self.now c.take_told.new.self c.args.pending.now c.take_told.ensures.kept

pub returns-in_err-add : goal.returns-in_err-add
returns-in_err-add g c =
    subst (Goes g.H.Hosts.content g.H.Hosts.room g.H.Hosts.IsTold c.args.self.now c.take_told.new.self c.args.pending.now) (sym c.in_err-add.ensures.refused)
    (goes_first g.H.Hosts.content g.H.Hosts.room g.H.Hosts.IsTold c.args.self.now c.take_told.new.self c.args.pending.now c.take_told.ensures.kept)

pub returns : goal.returns
returns g c =
    goes_one g.H.Hosts.content g.H.Hosts.room g.H.Hosts.IsTold c.args.self.now c.take_told.new.self c.count.new.self c.args.pending.now c.add.new.self c.in-Some.settled c.in-Some.text.items
    c.take_told.ensures.kept
    (subst (λ found. IfSome found (λ told. TellsOf (g.H.Hosts.IsTold (g.H.Hosts.content c.args.self.now.hosts)) told.0 told.1.items)) c.in-Some.is c.in_ok-settled.ensures.told)
    (c.in_ok-add.ensures.added ∙ ap (added c.args.pending.now) c.as_slice.ensures.value)
    c.count.ensures
