-- The numbers of refusals are small.
use Rattle.std.proofs.Common.{◌^◌, ◌<◌, arith}
use Rattle.zoned.specs.Codes.{device_number, input_number}
use Rattle.zoned.specs.declared.refusals.DeviceRefusal.{DeviceRefusal}
use Rattle.zoned.specs.declared.refusals.InputRefusal.{InputRefusal}

pub device_small : (r : DeviceRefusal) → device_number r < 2 ^ 32
device_small r = grind arith

pub input_small : (r : InputRefusal) → input_number r < 2 ^ 32
input_small r = grind arith
