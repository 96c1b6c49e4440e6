-- Each public function, and that its contract is tight. Assumes nothing.
-- `specs.contracts.F.ended` is the signature of the contract of F, `proofs.F.Reads.Learnt` what a caller learns from it: the toolchain makes both from the source.
-- A number counts the parameters before the lent buffer. host/listed compares this list with the sources.
use Rattle.tight.specs.Tight.{Tight}
use Rattle.tight.proofs.Laws.{plain, gives, printed, replied, said}
use Rattle.refusal
use Rattle.wide
use Rattle.door
use Rattle.duration
use Rattle.arithmetic
use Rattle.sums
use Rattle.seconds
use Rattle.text
use Rattle.reply
use Rattle.saltribbon

-- ---- refusal
pub refusal-number : Tight refusal.specs.contracts.number.ended refusal.proofs.number.Reads.Learnt
refusal-number κs a r s u v = plain

-- ---- wide
pub wide-WideFromU128-from : Tight wide.specs.contracts.WideFromU128.from.ended wide.proofs.WideFromU128.from.Reads.Learnt
wide-WideFromU128-from κs a r s u v = plain

pub wide-U128FromWide-from : Tight wide.specs.contracts.U128FromWide.from.ended wide.proofs.U128FromWide.from.Reads.Learnt
wide-U128FromWide-from κs a r s u v = plain

pub wide-widening_mul : Tight wide.specs.contracts.widening_mul.ended wide.proofs.widening_mul.Reads.Learnt
wide-widening_mul κs a r s u v = plain

pub wide-scaled : Tight wide.specs.contracts.scaled.ended wide.proofs.scaled.Reads.Learnt
wide-scaled κs a r s u v = plain

pub wide-mul : Tight wide.specs.contracts.mul.ended wide.proofs.mul.Reads.Learnt
wide-mul κs a r s u v = plain

pub wide-add : Tight wide.specs.contracts.add.ended wide.proofs.add.Reads.Learnt
wide-add κs a r s u v = plain

pub wide-sub : Tight wide.specs.contracts.sub.ended wide.proofs.sub.Reads.Learnt
wide-sub κs a r s u v = plain

pub wide-compare : Tight wide.specs.contracts.compare.ended wide.proofs.compare.Reads.Learnt
wide-compare κs a r s u v = plain

pub wide-shl : Tight wide.specs.contracts.shl.ended wide.proofs.shl.Reads.Learnt
wide-shl κs a r s u v = plain

pub wide-shr : Tight wide.specs.contracts.shr.ended wide.proofs.shr.Reads.Learnt
wide-shr κs a r s u v = plain

pub wide-div : Tight wide.specs.contracts.div.ended wide.proofs.div.Reads.Learnt
wide-div κs a r s u v = plain

-- ---- door
pub door-door_widening_mul : Tight door.specs.contracts.door_widening_mul.ended door.proofs.door_widening_mul.Reads.Learnt
door-door_widening_mul κs a r s u v = gives 2

pub door-door_mul : Tight door.specs.contracts.door_mul.ended door.proofs.door_mul.Reads.Learnt
door-door_mul κs a r s u v = gives 4

pub door-door_add : Tight door.specs.contracts.door_add.ended door.proofs.door_add.Reads.Learnt
door-door_add κs a r s u v = gives 4

pub door-door_sub : Tight door.specs.contracts.door_sub.ended door.proofs.door_sub.Reads.Learnt
door-door_sub κs a r s u v = gives 4

pub door-door_compare : Tight door.specs.contracts.door_compare.ended door.proofs.door_compare.Reads.Learnt
door-door_compare κs a r s u v = gives 4

pub door-door_shl : Tight door.specs.contracts.door_shl.ended door.proofs.door_shl.Reads.Learnt
door-door_shl κs a r s u v = gives 3

pub door-door_shr : Tight door.specs.contracts.door_shr.ended door.proofs.door_shr.Reads.Learnt
door-door_shr κs a r s u v = gives 3

pub door-door_div : Tight door.specs.contracts.door_div.ended door.proofs.door_div.Reads.Learnt
door-door_div κs a r s u v = gives 4

-- ---- duration::constructors
pub duration-Duration-checked : Tight duration.specs.contracts.Duration.checked.ended duration.proofs.Duration.checked.Reads.Learnt
duration-Duration-checked κs a r s u v = plain

pub duration-new : Tight duration.specs.contracts.constructors.new.ended duration.proofs.constructors.new.Reads.Learnt
duration-new κs a r s u v = plain

pub duration-from_secs : Tight duration.specs.contracts.constructors.from_secs.ended duration.proofs.constructors.from_secs.Reads.Learnt
duration-from_secs κs a r s u v = plain

pub duration-from_millis : Tight duration.specs.contracts.constructors.from_millis.ended duration.proofs.constructors.from_millis.Reads.Learnt
duration-from_millis κs a r s u v = plain

pub duration-from_micros : Tight duration.specs.contracts.constructors.from_micros.ended duration.proofs.constructors.from_micros.Reads.Learnt
duration-from_micros κs a r s u v = plain

pub duration-from_nanos : Tight duration.specs.contracts.constructors.from_nanos.ended duration.proofs.constructors.from_nanos.Reads.Learnt
duration-from_nanos κs a r s u v = plain

pub duration-from_nanos_u128 : Tight duration.specs.contracts.constructors.from_nanos_u128.ended duration.proofs.constructors.from_nanos_u128.Reads.Learnt
duration-from_nanos_u128 κs a r s u v = plain

pub duration-from_mins : Tight duration.specs.contracts.constructors.from_mins.ended duration.proofs.constructors.from_mins.Reads.Learnt
duration-from_mins κs a r s u v = plain

pub duration-from_hours : Tight duration.specs.contracts.constructors.from_hours.ended duration.proofs.constructors.from_hours.Reads.Learnt
duration-from_hours κs a r s u v = plain

pub duration-from_days : Tight duration.specs.contracts.constructors.from_days.ended duration.proofs.constructors.from_days.Reads.Learnt
duration-from_days κs a r s u v = plain

pub duration-from_weeks : Tight duration.specs.contracts.constructors.from_weeks.ended duration.proofs.constructors.from_weeks.Reads.Learnt
duration-from_weeks κs a r s u v = plain

pub duration-from_unit : Tight duration.specs.contracts.constructors.from_unit.ended duration.proofs.constructors.from_unit.Reads.Learnt
duration-from_unit κs a r s u v = plain

-- ---- duration::parts
pub duration-as_secs : Tight duration.specs.contracts.parts.as_secs.ended duration.proofs.parts.as_secs.Reads.Learnt
duration-as_secs κs a r s u v = plain

pub duration-subsec_millis : Tight duration.specs.contracts.parts.subsec_millis.ended duration.proofs.parts.subsec_millis.Reads.Learnt
duration-subsec_millis κs a r s u v = plain

pub duration-subsec_micros : Tight duration.specs.contracts.parts.subsec_micros.ended duration.proofs.parts.subsec_micros.Reads.Learnt
duration-subsec_micros κs a r s u v = plain

pub duration-subsec_nanos : Tight duration.specs.contracts.parts.subsec_nanos.ended duration.proofs.parts.subsec_nanos.Reads.Learnt
duration-subsec_nanos κs a r s u v = plain

pub duration-as_millis : Tight duration.specs.contracts.parts.as_millis.ended duration.proofs.parts.as_millis.Reads.Learnt
duration-as_millis κs a r s u v = plain

pub duration-as_micros : Tight duration.specs.contracts.parts.as_micros.ended duration.proofs.parts.as_micros.Reads.Learnt
duration-as_micros κs a r s u v = plain

pub duration-as_nanos : Tight duration.specs.contracts.parts.as_nanos.ended duration.proofs.parts.as_nanos.Reads.Learnt
duration-as_nanos κs a r s u v = plain

pub duration-is_zero : Tight duration.specs.contracts.parts.is_zero.ended duration.proofs.parts.is_zero.Reads.Learnt
duration-is_zero κs a r s u v = plain

pub duration-cmp : Tight duration.specs.contracts.parts.cmp.ended duration.proofs.parts.cmp.Reads.Learnt
duration-cmp κs a r s u v = plain

-- ---- arithmetic
pub arithmetic-checked_add : Tight arithmetic.specs.contracts.checked_add.ended arithmetic.proofs.checked_add.Reads.Learnt
arithmetic-checked_add κs a r s u v = plain

pub arithmetic-checked_sub : Tight arithmetic.specs.contracts.checked_sub.ended arithmetic.proofs.checked_sub.Reads.Learnt
arithmetic-checked_sub κs a r s u v = plain

pub arithmetic-abs_diff : Tight arithmetic.specs.contracts.abs_diff.ended arithmetic.proofs.abs_diff.Reads.Learnt
arithmetic-abs_diff κs a r s u v = plain

pub arithmetic-checked_mul : Tight arithmetic.specs.contracts.checked_mul.ended arithmetic.proofs.checked_mul.Reads.Learnt
arithmetic-checked_mul κs a r s u v = plain

pub arithmetic-checked_div : Tight arithmetic.specs.contracts.checked_div.ended arithmetic.proofs.checked_div.Reads.Learnt
arithmetic-checked_div κs a r s u v = plain

pub arithmetic-div_duration_floor : Tight arithmetic.specs.contracts.div_duration_floor.ended arithmetic.proofs.div_duration_floor.Reads.Learnt
arithmetic-div_duration_floor κs a r s u v = plain

pub arithmetic-div_duration_ceil : Tight arithmetic.specs.contracts.div_duration_ceil.ended arithmetic.proofs.div_duration_ceil.Reads.Learnt
arithmetic-div_duration_ceil κs a r s u v = plain

pub arithmetic-saturating_add : Tight arithmetic.specs.contracts.saturating_add.ended arithmetic.proofs.saturating_add.Reads.Learnt
arithmetic-saturating_add κs a r s u v = plain

pub arithmetic-saturating_sub : Tight arithmetic.specs.contracts.saturating_sub.ended arithmetic.proofs.saturating_sub.Reads.Learnt
arithmetic-saturating_sub κs a r s u v = plain

pub arithmetic-saturating_mul : Tight arithmetic.specs.contracts.saturating_mul.ended arithmetic.proofs.saturating_mul.Reads.Learnt
arithmetic-saturating_mul κs a r s u v = plain

-- ---- sums
pub sums-sum : Tight sums.specs.contracts.sum.ended sums.proofs.sum.Reads.Learnt
sums-sum κs a r s u v = plain

pub sums-sum_bytes : Tight sums.specs.contracts.sum_bytes.ended sums.proofs.sum_bytes.Reads.Learnt
sums-sum_bytes κs a r s u v = plain

-- ---- seconds::from
pub seconds-try_from_secs_f64 : Tight seconds.specs.contracts.from.try_from_secs_f64.ended seconds.proofs.from.try_from_secs_f64.Reads.Learnt
seconds-try_from_secs_f64 κs a r s u v = plain

pub seconds-try_from_secs_f32 : Tight seconds.specs.contracts.from.try_from_secs_f32.ended seconds.proofs.from.try_from_secs_f32.Reads.Learnt
seconds-try_from_secs_f32 κs a r s u v = plain

pub seconds-mul_f64 : Tight seconds.specs.contracts.from.mul_f64.ended seconds.proofs.from.mul_f64.Reads.Learnt
seconds-mul_f64 κs a r s u v = plain

pub seconds-div_f64 : Tight seconds.specs.contracts.from.div_f64.ended seconds.proofs.from.div_f64.Reads.Learnt
seconds-div_f64 κs a r s u v = plain

pub seconds-mul_f32 : Tight seconds.specs.contracts.from.mul_f32.ended seconds.proofs.from.mul_f32.Reads.Learnt
seconds-mul_f32 κs a r s u v = plain

pub seconds-div_f32 : Tight seconds.specs.contracts.from.div_f32.ended seconds.proofs.from.div_f32.Reads.Learnt
seconds-div_f32 κs a r s u v = plain

-- ---- seconds::out. Which NaN ZERO over ZERO carries is the exception that docs/DECISIONS.md lists: the logic's floats have one
pub seconds-as_secs_f64 : Tight seconds.specs.contracts.out.as_secs_f64.ended seconds.proofs.out.as_secs_f64.Reads.Learnt
seconds-as_secs_f64 κs a r s u v = plain

pub seconds-as_secs_f32 : Tight seconds.specs.contracts.out.as_secs_f32.ended seconds.proofs.out.as_secs_f32.Reads.Learnt
seconds-as_secs_f32 κs a r s u v = plain

pub seconds-as_millis_f64 : Tight seconds.specs.contracts.out.as_millis_f64.ended seconds.proofs.out.as_millis_f64.Reads.Learnt
seconds-as_millis_f64 κs a r s u v = plain

pub seconds-as_millis_f32 : Tight seconds.specs.contracts.out.as_millis_f32.ended seconds.proofs.out.as_millis_f32.Reads.Learnt
seconds-as_millis_f32 κs a r s u v = plain

pub seconds-div_duration_f64 : Tight seconds.specs.contracts.out.div_duration_f64.ended seconds.proofs.out.div_duration_f64.Reads.Learnt
seconds-div_duration_f64 κs a r s u v = plain

pub seconds-div_duration_f32 : Tight seconds.specs.contracts.out.div_duration_f32.ended seconds.proofs.out.div_duration_f32.Reads.Learnt
seconds-div_duration_f32 κs a r s u v = plain

-- ---- text
pub text-fmt : Tight text.specs.contracts.fmt.ended text.proofs.fmt.Reads.Learnt
text-fmt κs a r s u v = printed 2

-- ---- reply
pub reply-WordsFromDuration-from : Tight reply.specs.contracts.WordsFromDuration.from.ended reply.proofs.WordsFromDuration.from.Reads.Learnt
reply-WordsFromDuration-from κs a r s u v = plain

pub reply-WordsFromWide-from : Tight reply.specs.contracts.WordsFromWide.from.ended reply.proofs.WordsFromWide.from.Reads.Learnt
reply-WordsFromWide-from κs a r s u v = plain

pub reply-WordsFromU64-from : Tight reply.specs.contracts.WordsFromU64.from.ended reply.proofs.WordsFromU64.from.Reads.Learnt
reply-WordsFromU64-from κs a r s u v = plain

pub reply-WordsFromU32-from : Tight reply.specs.contracts.WordsFromU32.from.ended reply.proofs.WordsFromU32.from.Reads.Learnt
reply-WordsFromU32-from κs a r s u v = plain

pub reply-WordsFromBool-from : Tight reply.specs.contracts.WordsFromBool.from.ended reply.proofs.WordsFromBool.from.Reads.Learnt
reply-WordsFromBool-from κs a r s u v = plain

pub reply-WordsFromOrdering-from : Tight reply.specs.contracts.WordsFromOrdering.from.ended reply.proofs.WordsFromOrdering.from.Reads.Learnt
reply-WordsFromOrdering-from κs a r s u v = plain

pub reply-WordsFromF64-from : Tight reply.specs.contracts.WordsFromF64.from.ended reply.proofs.WordsFromF64.from.Reads.Learnt
reply-WordsFromF64-from κs a r s u v = plain

pub reply-WordsFromF32-from : Tight reply.specs.contracts.WordsFromF32.from.ended reply.proofs.WordsFromF32.from.Reads.Learnt
reply-WordsFromF32-from κs a r s u v = plain

pub reply-send : Tight reply.specs.contracts.send.ended reply.proofs.send.Reads.Learnt
reply-send κs a r s u v = replied 1

-- ---- saltribbon::constructors
pub saltribbon-salt_new : Tight saltribbon.specs.contracts.constructors.salt_new.ended saltribbon.proofs.constructors.salt_new.Reads.Learnt
saltribbon-salt_new κs a r s u v = replied 2

pub saltribbon-salt_from_unit : Tight saltribbon.specs.contracts.constructors.salt_from_unit.ended saltribbon.proofs.constructors.salt_from_unit.Reads.Learnt
saltribbon-salt_from_unit κs a r s u v = replied 2

pub saltribbon-salt_from_nanos_u128 : Tight saltribbon.specs.contracts.constructors.salt_from_nanos_u128.ended saltribbon.proofs.constructors.salt_from_nanos_u128.Reads.Learnt
saltribbon-salt_from_nanos_u128 κs a r s u v = replied 2

pub saltribbon-salt_second : Tight saltribbon.specs.contracts.constructors.salt_second.ended saltribbon.proofs.constructors.salt_second.Reads.Learnt
saltribbon-salt_second κs a r s u v = replied 0

pub saltribbon-salt_millisecond : Tight saltribbon.specs.contracts.constructors.salt_millisecond.ended saltribbon.proofs.constructors.salt_millisecond.Reads.Learnt
saltribbon-salt_millisecond κs a r s u v = replied 0

pub saltribbon-salt_microsecond : Tight saltribbon.specs.contracts.constructors.salt_microsecond.ended saltribbon.proofs.constructors.salt_microsecond.Reads.Learnt
saltribbon-salt_microsecond κs a r s u v = replied 0

pub saltribbon-salt_nanosecond : Tight saltribbon.specs.contracts.constructors.salt_nanosecond.ended saltribbon.proofs.constructors.salt_nanosecond.Reads.Learnt
saltribbon-salt_nanosecond κs a r s u v = replied 0

pub saltribbon-salt_zero : Tight saltribbon.specs.contracts.constructors.salt_zero.ended saltribbon.proofs.constructors.salt_zero.Reads.Learnt
saltribbon-salt_zero κs a r s u v = replied 0

pub saltribbon-salt_max : Tight saltribbon.specs.contracts.constructors.salt_max.ended saltribbon.proofs.constructors.salt_max.Reads.Learnt
saltribbon-salt_max κs a r s u v = replied 0

-- ---- saltribbon::floats_in
pub saltribbon-salt_try_from_secs_f64 : Tight saltribbon.specs.contracts.floats_in.salt_try_from_secs_f64.ended saltribbon.proofs.floats_in.salt_try_from_secs_f64.Reads.Learnt
saltribbon-salt_try_from_secs_f64 κs a r s u v = replied 1

pub saltribbon-salt_try_from_secs_f32 : Tight saltribbon.specs.contracts.floats_in.salt_try_from_secs_f32.ended saltribbon.proofs.floats_in.salt_try_from_secs_f32.Reads.Learnt
saltribbon-salt_try_from_secs_f32 κs a r s u v = replied 1

pub saltribbon-salt_mul_f64 : Tight saltribbon.specs.contracts.floats_in.salt_mul_f64.ended saltribbon.proofs.floats_in.salt_mul_f64.Reads.Learnt
saltribbon-salt_mul_f64 κs a r s u v = replied 3

pub saltribbon-salt_mul_f32 : Tight saltribbon.specs.contracts.floats_in.salt_mul_f32.ended saltribbon.proofs.floats_in.salt_mul_f32.Reads.Learnt
saltribbon-salt_mul_f32 κs a r s u v = replied 3

pub saltribbon-salt_div_f64 : Tight saltribbon.specs.contracts.floats_in.salt_div_f64.ended saltribbon.proofs.floats_in.salt_div_f64.Reads.Learnt
saltribbon-salt_div_f64 κs a r s u v = replied 3

pub saltribbon-salt_div_f32 : Tight saltribbon.specs.contracts.floats_in.salt_div_f32.ended saltribbon.proofs.floats_in.salt_div_f32.Reads.Learnt
saltribbon-salt_div_f32 κs a r s u v = replied 3

-- ---- saltribbon::floats_out
pub saltribbon-salt_as_secs_f64 : Tight saltribbon.specs.contracts.floats_out.salt_as_secs_f64.ended saltribbon.proofs.floats_out.salt_as_secs_f64.Reads.Learnt
saltribbon-salt_as_secs_f64 κs a r s u v = replied 2

pub saltribbon-salt_as_secs_f32 : Tight saltribbon.specs.contracts.floats_out.salt_as_secs_f32.ended saltribbon.proofs.floats_out.salt_as_secs_f32.Reads.Learnt
saltribbon-salt_as_secs_f32 κs a r s u v = replied 2

pub saltribbon-salt_as_millis_f64 : Tight saltribbon.specs.contracts.floats_out.salt_as_millis_f64.ended saltribbon.proofs.floats_out.salt_as_millis_f64.Reads.Learnt
saltribbon-salt_as_millis_f64 κs a r s u v = replied 2

pub saltribbon-salt_as_millis_f32 : Tight saltribbon.specs.contracts.floats_out.salt_as_millis_f32.ended saltribbon.proofs.floats_out.salt_as_millis_f32.Reads.Learnt
saltribbon-salt_as_millis_f32 κs a r s u v = replied 2

pub saltribbon-salt_div_duration_f64 : Tight saltribbon.specs.contracts.floats_out.salt_div_duration_f64.ended saltribbon.proofs.floats_out.salt_div_duration_f64.Reads.Learnt
saltribbon-salt_div_duration_f64 κs a r s u v = replied 4

pub saltribbon-salt_div_duration_f32 : Tight saltribbon.specs.contracts.floats_out.salt_div_duration_f32.ended saltribbon.proofs.floats_out.salt_div_duration_f32.Reads.Learnt
saltribbon-salt_div_duration_f32 κs a r s u v = replied 4

-- ---- saltribbon::integers
pub saltribbon-salt_checked_add : Tight saltribbon.specs.contracts.integers.salt_checked_add.ended saltribbon.proofs.integers.salt_checked_add.Reads.Learnt
saltribbon-salt_checked_add κs a r s u v = replied 4

pub saltribbon-salt_saturating_add : Tight saltribbon.specs.contracts.integers.salt_saturating_add.ended saltribbon.proofs.integers.salt_saturating_add.Reads.Learnt
saltribbon-salt_saturating_add κs a r s u v = replied 4

pub saltribbon-salt_checked_sub : Tight saltribbon.specs.contracts.integers.salt_checked_sub.ended saltribbon.proofs.integers.salt_checked_sub.Reads.Learnt
saltribbon-salt_checked_sub κs a r s u v = replied 4

pub saltribbon-salt_saturating_sub : Tight saltribbon.specs.contracts.integers.salt_saturating_sub.ended saltribbon.proofs.integers.salt_saturating_sub.Reads.Learnt
saltribbon-salt_saturating_sub κs a r s u v = replied 4

pub saltribbon-salt_abs_diff : Tight saltribbon.specs.contracts.integers.salt_abs_diff.ended saltribbon.proofs.integers.salt_abs_diff.Reads.Learnt
saltribbon-salt_abs_diff κs a r s u v = replied 4

pub saltribbon-salt_checked_mul : Tight saltribbon.specs.contracts.integers.salt_checked_mul.ended saltribbon.proofs.integers.salt_checked_mul.Reads.Learnt
saltribbon-salt_checked_mul κs a r s u v = replied 3

pub saltribbon-salt_saturating_mul : Tight saltribbon.specs.contracts.integers.salt_saturating_mul.ended saltribbon.proofs.integers.salt_saturating_mul.Reads.Learnt
saltribbon-salt_saturating_mul κs a r s u v = replied 3

pub saltribbon-salt_checked_div : Tight saltribbon.specs.contracts.integers.salt_checked_div.ended saltribbon.proofs.integers.salt_checked_div.Reads.Learnt
saltribbon-salt_checked_div κs a r s u v = replied 3

pub saltribbon-salt_div_duration_floor : Tight saltribbon.specs.contracts.integers.salt_div_duration_floor.ended saltribbon.proofs.integers.salt_div_duration_floor.Reads.Learnt
saltribbon-salt_div_duration_floor κs a r s u v = replied 4

pub saltribbon-salt_div_duration_ceil : Tight saltribbon.specs.contracts.integers.salt_div_duration_ceil.ended saltribbon.proofs.integers.salt_div_duration_ceil.Reads.Learnt
saltribbon-salt_div_duration_ceil κs a r s u v = replied 4

-- ---- saltribbon::parts
pub saltribbon-salt_as_secs : Tight saltribbon.specs.contracts.parts.salt_as_secs.ended saltribbon.proofs.parts.salt_as_secs.Reads.Learnt
saltribbon-salt_as_secs κs a r s u v = replied 2

pub saltribbon-salt_subsec_millis : Tight saltribbon.specs.contracts.parts.salt_subsec_millis.ended saltribbon.proofs.parts.salt_subsec_millis.Reads.Learnt
saltribbon-salt_subsec_millis κs a r s u v = replied 2

pub saltribbon-salt_subsec_micros : Tight saltribbon.specs.contracts.parts.salt_subsec_micros.ended saltribbon.proofs.parts.salt_subsec_micros.Reads.Learnt
saltribbon-salt_subsec_micros κs a r s u v = replied 2

pub saltribbon-salt_subsec_nanos : Tight saltribbon.specs.contracts.parts.salt_subsec_nanos.ended saltribbon.proofs.parts.salt_subsec_nanos.Reads.Learnt
saltribbon-salt_subsec_nanos κs a r s u v = replied 2

pub saltribbon-salt_as_millis : Tight saltribbon.specs.contracts.parts.salt_as_millis.ended saltribbon.proofs.parts.salt_as_millis.Reads.Learnt
saltribbon-salt_as_millis κs a r s u v = replied 2

pub saltribbon-salt_as_micros : Tight saltribbon.specs.contracts.parts.salt_as_micros.ended saltribbon.proofs.parts.salt_as_micros.Reads.Learnt
saltribbon-salt_as_micros κs a r s u v = replied 2

pub saltribbon-salt_as_nanos : Tight saltribbon.specs.contracts.parts.salt_as_nanos.ended saltribbon.proofs.parts.salt_as_nanos.Reads.Learnt
saltribbon-salt_as_nanos κs a r s u v = replied 2

pub saltribbon-salt_is_zero : Tight saltribbon.specs.contracts.parts.salt_is_zero.ended saltribbon.proofs.parts.salt_is_zero.Reads.Learnt
saltribbon-salt_is_zero κs a r s u v = replied 2

pub saltribbon-salt_cmp : Tight saltribbon.specs.contracts.parts.salt_cmp.ended saltribbon.proofs.parts.salt_cmp.Reads.Learnt
saltribbon-salt_cmp κs a r s u v = replied 4

-- ---- saltribbon::printed
pub saltribbon-salt_fmt : Tight saltribbon.specs.contracts.printed.salt_fmt.ended saltribbon.proofs.printed.salt_fmt.Reads.Learnt
saltribbon-salt_fmt κs a r s u v = said 7

-- ---- saltribbon::sum
pub saltribbon-salt_sum : Tight saltribbon.specs.contracts.sum.salt_sum.ended saltribbon.proofs.sum.salt_sum.Reads.Learnt
saltribbon-salt_sum κs a r s u v = replied 4
