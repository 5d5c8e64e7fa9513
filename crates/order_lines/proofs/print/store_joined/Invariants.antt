use Rattle.std.proofs.Common.{◌≡◌, length}
use Rattle.order_lines.specs.Print.{AreJoined}
use Rattle.order_lines.proofs.print.store_joined.Given as goal

abbrev pub invariant-digits : goal.invariant-digits
invariant-digits l =
    record {
      whole : length l.digits ≡ length l.fn.digits;
      joined : AreJoined l.fn.high l.fn.low l.digits l.i;
    }
