-- One item and the reader's steps: the laws of items and reader, as the page asks for them.
use mathlib.Core.Path.{refl}
use Rattle.tags.specs.Types.{least, most}
use Rattle.tags.specs.Reading.{head_at, number_at, length_at, two_at, four_at, first_rule, first_content, contents_at, whole_at, sign_bad, signed_at, context_at, application_at}
use Rattle.items.specs.Reading.{more, closes, step, within, item_at, one_at, end_of}
use Rattle.reader.specs.Reading.{shown, judged, step_of}
use Rattle.items.proofs.OneItem as Items
use Rattle.reader.proofs.Exact.{item_exact, group_exact, end_exact, closing_refused, closing_exact}
use Rattle.reader.proofs.Rows as Rows
use Rattle.reader.proofs.Walking as Walking
use Rattle.reader.proofs.Onward as Onward
use Rattle.demands.specs.Steps.{OneItemExact, StepsExact, StepRows, OneItemRows, StepOneRow, WalkAll, WalkOne, StepOn, StepsWorked}

pub one_item_exact : OneItemExact
one_item_exact = Items.one_exact

pub steps_exact : StepsExact
steps_exact s os at =
    record {
      item = λ k n v p l next. item_exact s at k n v p l next os;
      group = λ n p next. group_exact s at n p next os;
      end = end_exact s at;
      closing = closing_refused s at;
      closing_alone = closing_exact s at os;
    }

pub step_rows : StepRows
step_rows s os at x = Rows.steps_rows s at x os

pub one_item_rows : OneItemRows
one_item_rows s os at x = Rows.one_rows s at x os

pub step_one_row : StepOneRow
step_one_row s os short at h x y r q = Rows.rows_one s at x os short h y r q

pub walk_all : WalkAll
walk_all = Walking.walk_all

pub walk_one : WalkOne
walk_one = Walking.walk_one

pub step_on : StepOn
step_on = Onward.step_on

pub steps_worked : StepsWorked
unfolding step_of judged shown end_of one_at item_at within step closes more head_at number_at length_at two_at four_at first_rule first_content contents_at whole_at sign_bad signed_at context_at application_at least most
steps_worked =
    record {
      group = refl;
      inside = refl;
      its_closing = refl;
      ends = refl;
      past = refl;
      boolean = refl;
      other_number_lem = refl;
      left_open_lem = refl;
      one = refl;
      one_inside = refl;
      one_past = refl;
    }
