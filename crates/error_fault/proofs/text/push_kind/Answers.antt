use Rattle.error_fault.proofs.TextLemmas.{OnOk-append}
use Rattle.error_fault.proofs.text.push_kind.Goals as goal

pub returns-in_ok-push_naming-in-UnsupportedShape :
    goal.returns-in_ok-push_naming-in-UnsupportedShape
returns-in_ok-push_naming-in-UnsupportedShape c =
    rw c.in-UnsupportedShape.is
    (OnOk-append _ _ _ _ _ _ c.in_ok-push_naming-in-UnsupportedShape.ensures c.push_expected.ensures)

pub returns-in_ok-push_naming-in-UnknownField : goal.returns-in_ok-push_naming-in-UnknownField
returns-in_ok-push_naming-in-UnknownField c =
    rw c.in-UnknownField.is
    (OnOk-append _ _ _ _ _ _ c.in_ok-push_naming-in-UnknownField.ensures c.push_alternatives.ensures)

pub returns-in-UnexpectedFormat : goal.returns-in-UnexpectedFormat
returns-in-UnexpectedFormat c =
    rw c.in-UnexpectedFormat.is c.push_naming-in-UnexpectedFormat.ensures

pub returns-in-UnexpectedType : goal.returns-in-UnexpectedType
returns-in-UnexpectedType c = rw c.in-UnexpectedType.is c.push_naming-in-UnexpectedType.ensures

pub returns-in_ok-push_naming-in-UnknownValue : goal.returns-in_ok-push_naming-in-UnknownValue
returns-in_ok-push_naming-in-UnknownValue c =
    rw c.in-UnknownValue.is
    (OnOk-append _ _ _ _ _ _ c.in_ok-push_naming-in-UnknownValue.ensures c.push_alternatives-in-UnknownValue.ensures)

pub returns-in-TooManyItems : goal.returns-in-TooManyItems
returns-in-TooManyItems c = rw c.in-TooManyItems.is c.push_counting-in-TooManyItems.ensures
