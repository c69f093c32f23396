-- The three kinds of exactly two octets behind the first, read by those two octets.
use Rattle.std.specs.Prelude.{ℕ, Result, Ok, Err, Bool, true, false, ◌%◌, ◌≡◌, refl, List, length, leb, ltb}
use Rattle.octets.specs.Choice.{pick}
use Rattle.octets.specs.Reading.{oct}
use Rattle.apdu.specs.declared.Pdu.{Pdu}
use Rattle.apdu.specs.declared.Pdu.TheVariants.{SimpleAck, Reject, Abort}
use Rattle.apdu.specs.Reading.{Answer, two_octets, read_simple_ack, read_reject, read_abort, bit0}

-- the PDU that two good octets complete
abbrev pub with_two : Result (ℕ × ℕ) ℕ → (ℕ → ℕ → Pdu) → Answer
with_two (Ok t) whole = Ok (whole t.0 t.1)
with_two (Err n) whole = Err n

two_judged : (a b c : Bool) (x y : ℕ) (f : ℕ → ℕ → Pdu) → pick a (Err 22) (pick b (Err 20) (pick c (Err 24) (Ok (f x y)))) ≡ with_two (pick a (Err 22) (pick b (Err 20) (pick c (Err 24) (Ok (x, y))))) f
two_judged true b c x y f = refl
two_judged false true c x y f = refl
two_judged false false true x y f = refl
two_judged false false false x y f = refl

module _ (s : List ℕ) where
  pub simple_ack_two : read_simple_ack s ≡ with_two (two_octets 0 s) (λ a b. SimpleAck (record { invoke = a; choice = b }))
  unfolding read_simple_ack two_octets
  simple_ack_two = two_judged (ltb 0 (oct s 0 % 16)) (leb (length s) 2) (ltb 3 (length s)) _ _ _

  pub reject_two : read_reject s ≡ with_two (two_octets 0 s) (λ a b. Reject (record { invoke = a; reason = b }))
  unfolding read_reject two_octets
  reject_two = two_judged (ltb 0 (oct s 0 % 16)) (leb (length s) 2) (ltb 3 (length s)) _ _ _

  pub abort_two : read_abort s ≡ with_two (two_octets 1 s) (λ a b. Abort (record { srv = bit0 (oct s 0); invoke = a; reason = b }))
  unfolding read_abort two_octets
  abort_two = two_judged (ltb 1 (oct s 0 % 16)) (leb (length s) 2) (ltb 3 (length s)) _ _ _
