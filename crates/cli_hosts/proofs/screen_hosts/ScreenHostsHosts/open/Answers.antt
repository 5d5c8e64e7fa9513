use Rattle.std.proofs.Common.{ap, map, true}
use Rattle.tn_session.specs.HostTalk.{host_talk, first_said}
use Rattle.cli_hosts.specs.Hosting.{HostTakes, hosting}
use Rattle.cli_hosts.specs.Screens.{ScreenHosting}
use Rattle.cli_hosts.proofs.Told.{opens_one}
use Rattle.cli_hosts.proofs.screen_hosts.ScreenHostsHosts.open.Goals as goal

pub returns-clause-opened : goal.returns-clause-opened
returns-clause-opened c =
    let talk = host_talk c.self.inside.layout.now (map (λ bytes. bytes.now) c.self.inside.records.now) true true in
    opens_one HostTakes c.self.inside.hub c.args.self.now.room c.args.now c.in-Ok.token c.open_host.new.hub (hosting talk) (first_said talk)
    (ap (λ (h : ScreenHosting). h.room) c.self.view_is) c.in-Ok.ensures.opened c.in-Ok.ensures.free c.in-Ok.ensures.counted
