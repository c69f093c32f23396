-- What eating asks of what is lent. Nothing is judged again: 59 and 60 have passed.
use mathlib.Core.List.{List}
use Prim.Native.Nat.{ℕ}
use lib.ListN.{length}
use borrow.Author.Tests.{eqb-true}
use Rattle.frames.specs.declared.Link.{Link}
use Rattle.rebuild.specs.declared.Slots.{Slots}
use Rattle.collector.specs.Acting.{Lent}
use Rattle.playback.specs.Lent.{LendsOctet}

pub lends_both : (l : Link) (t : Slots) (store report area o : List ℕ) → LendsOctet l t store report area o → Lent report t area
lends_both l t store report area o A = record { line = A.lends.line; fair = A.lends.ready.slots; sized = eqb-true (length area) 65536 A.lends.ready.fits }
