use Rattle.std.proofs.Common.{◌≡◌, ◌<◌, ◌^◌, sum_by}
use Rattle.std.specs.List.{range_with_len}
use Rattle.council_c.specs.Masks.{digit_of}
use Rattle.council_c.proofs.masks.mask_of.Given as goal

abbrev pub invariant-loop-member : goal.invariant-loop-member
invariant-loop-member l = record {
  mask : l.mask ≡ sum_by (digit_of l.game l.coalition) (range_with_len 0 l.member);
  below : l.mask < 2 ^ l.member;
}
