use Rattle.std.proofs.Common.{◌≡◌, ◌∙◌, true, sym, subst}
use Rattle.std.specs.String.{string_bytes}
use Rattle.cli_traces.specs.declared.line.Next.{Next}
use Rattle.cli_traces.specs.Following.{Following, AddsByte, goes, stops}
use Rattle.cli_traces.specs.Held.{course_seen, following_seen}
use Rattle.cli_traces.specs.Start.{may_cut}
use Rattle.cli_traces.proofs.ByteLines.{bytes_end, bytes_more, bytes_stop, no_bytes}
use Rattle.cli_traces.proofs.line.take_bytes.Goals as goal

pub bytes-preserved : goal.bytes-preserved
bytes-preserved c =
    let now : Following = following_seen c.bytes.follower in
    let next : Following = following_seen c.take_byte.new.follower in
    let may : may_cut c.args.side now.reading.start ≡ true = sym c.may_cut.ensures ∙ c.if-not-may_cut.false in
    let adds = c.in_ok-take_byte.ensures.adds in
    let byte : AddsByte c.args.asked c.args.number c.args.side now c.in-Some.byte.now adds.0 (goes next) =
    subst (λ (n : Next). AddsByte c.args.asked c.args.number c.args.side now c.in-Some.byte.now adds.0 (course_seen n next)) c.in-Goes.is adds.2 in
    record {
      so = bytes_more c.args.asked c.args.number c.args.side (following_seen c.args.follower.now) c.args.bytes.now (string_bytes c.args.out.now) now c.bytes.rest.now
          (string_bytes c.bytes.out) c.bytes.invariant.so c.in-Some.byte.now c.in-Some.more.now c.in-Some.ensures.cases.0 (string_bytes c.take_byte.new.out) next may
          (adds.0, adds.1, byte);
      ready = c.in_ok-take_byte.ensures.ready c.in-Goes.is;
    }

pub returns-in-Stops-clause-adds : goal.returns-in-Stops-clause-adds
returns-in-Stops-clause-adds c =
    let now : Following = following_seen c.bytes.follower in
    let next : Following = following_seen c.take_byte.new.follower in
    let may : may_cut c.args.side now.reading.start ≡ true = sym c.may_cut.ensures ∙ c.if-not-may_cut.false in
    let adds = c.in_ok-take_byte.ensures.adds in
    let byte : AddsByte c.args.asked c.args.number c.args.side now c.in-Some.byte.now adds.0 stops =
    subst (λ (n : Next). AddsByte c.args.asked c.args.number c.args.side now c.in-Some.byte.now adds.0 (course_seen n next)) c.in-Stops.is adds.2 in
    bytes_stop c.args.asked c.args.number c.args.side (following_seen c.args.follower.now) c.args.bytes.now (string_bytes c.args.out.now) now c.bytes.rest.now
    (string_bytes c.bytes.out) c.bytes.invariant.so c.in-Some.byte.now c.in-Some.more.now c.in-Some.ensures.cases.0 (string_bytes c.take_byte.new.out) may
    (adds.0, adds.1, byte)

pub returns-clause-adds : goal.returns-clause-adds
returns-clause-adds c =
    bytes_end c.args.asked c.args.number c.args.side (following_seen c.args.follower.now) c.args.bytes.now (string_bytes c.args.out.now) (following_seen c.bytes.follower)
    c.bytes.rest.now (string_bytes c.bytes.out) c.bytes.invariant.so (no_bytes c.bytes.rest.now c.in_default.ensures.cases)
