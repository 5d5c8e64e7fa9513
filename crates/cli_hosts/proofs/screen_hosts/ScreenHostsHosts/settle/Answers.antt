use Rattle.std.proofs.Common.{◌≡◌, ap, subst}
use Rattle.session_hub.specs.Hubs.{seat_at, ended_in}
use Rattle.cli_hosts.specs.Hosts.{TellsOne, SettlesOne}
use Rattle.cli_hosts.specs.Screens.{ScreenHosting, IsToldOf}
use Rattle.cli_hosts.proofs.Told.{tells_one, settles_one}
use Rattle.cli_hosts.proofs.screen_hosts.ScreenHostsHosts.settle.Goals as goal

pub returns-clause-told : goal.returns-clause-told
returns-clause-told g c =
    let same : c.self.inside.layout.now.entries ≡ c.args.self.now.entries = ap (λ (h : ScreenHosting). h.entries) c.self.view_is in
    subst (λ entries. TellsOne (IsToldOf entries) c.args.output.now c.settle.new.output c.settle.result) same
    (tells_one c.self.inside.layout.now.entries (ended_in (seat_at c.args.token c.self.inside.hub.seats)) c.args.output.now c.settle.new.output c.settle.result c.settle.ensures.printed)

pub returns-clause-settled : goal.returns-clause-settled
returns-clause-settled g c =
    subst (λ (h : ScreenHosting). SettlesOne (ended_in (seat_at c.args.token h.room.seats)) c.settle.result) c.self.view_is
    (settles_one c.self.inside.layout.now.entries (ended_in (seat_at c.args.token c.self.inside.hub.seats)) c.args.output.now c.settle.new.output c.settle.result c.settle.ensures.printed)
