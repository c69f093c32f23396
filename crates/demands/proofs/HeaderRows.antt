-- The APDU headers' rows, from the laws of apdu.
use native.Mathlib.Omega.{arith}
use mathlib.Core.Path.{◌≡◌, refl}
use mathlib.Core.Bool.{false}
use lib.Dec.{ltb}
use borrow.Author.Tests.{le-ltb}
use Rattle.octets.specs.Choice.{given}
use Rattle.apdu.specs.declared.Edition.{Edition}
use Rattle.apdu.specs.Reading.{read_apdu, read_tail, read_request, read_unconfirmed, read_simple_ack, read_complex_ack, read_segment_ack, read_error, read_reject, read_abort}
use Rattle.apdu.specs.Editions.{most}
use Rattle.apdu.specs.Fields.{tail_end}
use Rattle.apdu.specs.Layout.{flag, first_octet, tail}
use Rattle.apdu.specs.Fault.{mor_fault, window_fault, segment_fault, code_fault, size_fault}
use Rattle.apdu.proofs.LeftToRight.{left_to_right}
use Rattle.apdu.proofs.Rows.{row_20, row_21, row_22, row_23, row_24, one_outcome}
use Rattle.apdu.proofs.FirstFault.{fault_22, fault_23, fault_none, fault_read}
use Rattle.demands.specs.HeaderRows.{HeaderLeftToRight, HeaderEndsEarly, HeaderHighType, HeaderZeroBitSet, HeaderSizeOrWindow, HeaderLeftOver, HeaderOneOutcome, HeaderWriterExact, HeaderWriterAsRead, HeadersWorked, HeadersRefused}

pub header_left_to_right : HeaderLeftToRight
header_left_to_right = left_to_right

pub header_ends_early : HeaderEndsEarly
header_ends_early = row_20

pub header_high_type : HeaderHighType
header_high_type = row_21

pub header_zero_bit_set : HeaderZeroBitSet
header_zero_bit_set = row_22

pub header_size_or_window : HeaderSizeOrWindow
header_size_or_window = row_23

pub header_left_over : HeaderLeftOver
header_left_over = row_24

pub header_one_outcome : HeaderOneOutcome
header_one_outcome = one_outcome

pub header_writer_exact : HeaderWriterExact
header_writer_exact edition p = (fault_22 edition p, fault_23 edition p, fault_none edition p)

pub header_writer_as_read : HeaderWriterAsRead
header_writer_as_read = fault_read

-- a code of 0 is above no edition's greatest
no_code : (e : Edition) → ltb (most e) 0 ≡ false
no_code e = le-ltb (most e) 0 (omega arith)

pub headers_worked : HeadersWorked
unfolding read_apdu read_tail read_request read_unconfirmed read_simple_ack read_complex_ack read_segment_ack read_error read_reject read_abort tail_end flag first_octet tail mor_fault window_fault segment_fault code_fault size_fault given
headers_worked e =
    record {
      request_more = record { read = rw (no_code e); place = refl; fine = rw (no_code e); laid = refl };
      request_last = record { read = rw (no_code e); place = refl; fine = rw (no_code e); laid = refl };
      request_whole = record { read = rw (no_code e); place = refl; fine = rw (no_code e); laid = refl };
      unconfirmed = record { read = refl; place = refl; fine = refl; laid = refl };
      simple_ack_lem = record { read = refl; place = refl; fine = refl; laid = refl };
      complex_ack_more = record { read = refl; place = refl; fine = refl; laid = refl };
      complex_ack_last = record { read = refl; place = refl; fine = refl; laid = refl };
      complex_ack_whole = record { read = refl; place = refl; fine = refl; laid = refl };
      segment_ack_nak = record { read = refl; place = refl; fine = refl; laid = refl };
      segment_ack_srv = record { read = refl; place = refl; fine = refl; laid = refl };
      error = record { read = refl; place = refl; fine = refl; laid = refl };
      reject = record { read = refl; place = refl; fine = refl; laid = refl };
      abort_srv = record { read = refl; place = refl; fine = refl; laid = refl };
      abort = record { read = refl; place = refl; fine = refl; laid = refl };
    }

pub headers_refused : HeadersRefused
unfolding read_apdu read_tail read_request read_unconfirmed read_simple_ack read_complex_ack read_segment_ack read_error read_reject read_abort mor_fault window_fault segment_fault code_fault size_fault given
headers_refused e =
    record {
      size = rw (no_code e) (refl, refl, refl, refl, refl, refl, refl, refl);
      request_window = rw (no_code e) (refl, refl, refl, refl, refl, refl, refl, refl);
      complex_ack_window = (refl, refl, refl, refl, refl, refl, refl, refl);
      segment_ack_window = (refl, refl, refl, refl, refl, refl, refl, refl);
      no_window = rw (no_code e) (refl, refl);
      types = (refl, refl, refl, refl, refl, refl);
      zero_bits = (refl, refl, refl, refl, refl, refl, refl, refl, refl, refl, refl, refl, refl, refl, refl, refl, refl, refl, refl, refl, refl, refl, refl, refl, refl, refl, refl);
      left_over_lem = (refl, refl, refl, refl, refl);
      two_faults = rw (no_code e) (refl, refl, refl, refl, refl, refl, refl, refl, refl);
      early = rw (no_code e) (refl, refl, refl, refl, refl, refl, refl, refl, refl, refl, refl, refl, refl, refl, refl);
    }
