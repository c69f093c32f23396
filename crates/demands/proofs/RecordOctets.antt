-- Records, octet by octet: by computation.
use mathlib.Core.Path.{refl}
use Rattle.octets.specs.Numbers.{value_at}
use Rattle.records.specs.Network.{npdu_record, npdu_at}
use Rattle.records.specs.Application.{segment_at, apdu_at}
use Rattle.records.specs.Service.{service_record, service_of, service_at}
use Rattle.records.proofs.Applications.{apdu_back}
use Rattle.demands.specs.RecordOctets.{NetworkRecords, HeaderRecords, ServiceRecords, NetworkTaken, HeadersTaken, ServicesTaken}

pub network_records : NetworkRecords
unfolding npdu_record npdu_at
network_records =
    record {
      message = record { there = refl; back = refl };
      dest = record { there = refl; back = refl };
      source = record { there = refl; back = refl };
      reply = record { there = refl; back = refl };
    }

pub header_records : HeaderRecords
unfolding apdu_at segment_at
header_records =
    record {
      again = apdu_back;
      code = λ x. record { there = refl; back = refl };
      request = record { there = refl; back = refl };
      more = record { there = refl; back = refl };
      accepted = record { there = refl; back = refl };
      unconfirmed = record { there = refl; back = refl };
      simple = record { there = refl; back = refl };
      complex = record { there = refl; back = refl };
      complex_more = record { there = refl; back = refl };
      segment_nak = record { there = refl; back = refl };
      segment_srv = record { there = refl; back = refl };
      error = record { there = refl; back = refl };
      reject = record { there = refl; back = refl };
      abort = record { there = refl; back = refl };
    }

pub service_records : ServiceRecords
unfolding service_record service_at service_of value_at
service_records =
    record {
      read = record { there = refl; back = refl };
      ack = record { there = refl; back = refl };
      write = record { there = refl; back = refl };
      who_is_lem = record { there = refl; back = refl };
      i_am_lem = record { there = refl; back = refl };
      error = record { there = refl; back = refl };
    }

pub network_taken : NetworkTaken
unfolding npdu_at
network_taken = record { flags = refl; none = refl }

pub headers_taken : HeadersTaken
unfolding apdu_at segment_at
headers_taken = record { request = refl; unconfirmed = refl; simple = refl; complex = refl; segment_ack_lem = refl; error = refl; reject = refl; abort = refl }

pub services_taken : ServicesTaken
unfolding service_at service_of value_at
services_taken = record { read = refl; ack = refl; write = refl; who_is_lem = refl; i_am_lem = refl; error = refl }
