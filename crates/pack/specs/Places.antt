-- The record's places (house): rows of sixteen bytes, one subject each, and the places in a row. What has no name here
-- is room: it is written 0 and not looked at, so that a new field takes a place there and moves no other. What lies at
-- the places is Bytes.
-- Assumes nothing.
use Rattle.std.specs.Prelude.{ℕ, ◌+◌, ◌*◌}

-- the layout's, in the first byte; never 0, so that memory that was never powered on is no record
abbrev pub version : ℕ
version = 1

-- the version and the registers
abbrev pub registers_row : ℕ
registers_row = 0

-- a drive's, of four
abbrev pub drive_row : ℕ → ℕ
drive_row k = 0x10 + 0x10 * k

-- the FIFO's sixteen bytes; its count, request and TC
abbrev pub fifo_row : ℕ
fifo_row = 0x50

abbrev pub flow_row : ℕ
flow_row = 0x60

-- the command's bytes; the results
abbrev pub command_row : ℕ
command_row = 0x70

abbrev pub result_row : ℕ
result_row = 0x80

-- the phase; where a command works, and a Format's plan; a transfer with the sector in hand; its stage
abbrev pub phase_row : ℕ
phase_row = 0x90

abbrev pub site_row : ℕ
site_row = 0xA0

abbrev pub task_row : ℕ
task_row = 0xB0

abbrev pub spot_row : ℕ
spot_row = 0xC0

-- the registers, behind the layout's version
abbrev pub version_at : ℕ
version_at = 0

abbrev pub dor_at : ℕ
dor_at = 1

abbrev pub tdr_at : ℕ
tdr_at = 2

abbrev pub rate_at : ℕ
rate_at = 3

abbrev pub spec1_at : ℕ
spec1_at = 4

abbrev pub spec2_at : ℕ
spec2_at = 5

abbrev pub eis_at : ℕ
eis_at = 6

abbrev pub efifo_at : ℕ
efifo_at = 7

abbrev pub poll_at : ℕ
poll_at = 8

abbrev pub fifothr_at : ℕ
fifothr_at = 9

abbrev pub pretrk_at : ℕ
pretrk_at = 10

-- a drive; a number of 16 bits goes on at the next place
abbrev pub head_at : ℕ
head_at = 0

abbrev pub pcn_at : ℕ
pcn_at = 1

abbrev pub changed_at : ℕ
changed_at = 2

abbrev pub busy_at : ℕ
busy_at = 3

abbrev pub report_at : ℕ
report_at = 4

abbrev pub motion_at : ℕ
motion_at = 5

abbrev pub target_at : ℕ
target_at = 6

abbrev pub steps_at : ℕ
steps_at = 7

abbrev pub wait_at : ℕ
wait_at = 8

-- the FIFO's count, request and TC
abbrev pub count_at : ℕ
count_at = 0

abbrev pub asks_at : ℕ
asks_at = 1

abbrev pub tc_at : ℕ
tc_at = 2

-- command and result bytes lie from 0 on, and at the row's end how many they are
abbrev pub gathered_at : ℕ
gathered_at = 15

abbrev pub left_at : ℕ
left_at = 15

-- the phase's number, Gathering, Sensing and Answering, and the number of the job or work
abbrev pub tag_at : ℕ
tag_at = 0

abbrev pub kind_at : ℕ
kind_at = 1

abbrev pub due_at : ℕ
due_at = 2

abbrev pub unit_at : ℕ
unit_at = 3

abbrev pub loud_at : ℕ
loud_at = 4

abbrev pub work_at : ℕ
work_at = 5

-- where a command works, and a Format's plan
abbrev pub drive_number_at : ℕ
drive_number_at = 0

abbrev pub side_at : ℕ
side_at = 1

abbrev pub cylinders_at : ℕ
cylinders_at = 2

abbrev pub heads_at : ℕ
heads_at = 3

abbrev pub slots_at : ℕ
slots_at = 4

abbrev pub disk_size_at : ℕ
disk_size_at = 5

abbrev pub protect_at : ℕ
protect_at = 6

abbrev pub plan_size_at : ℕ
plan_size_at = 8

abbrev pub sc_at : ℕ
sc_at = 9

abbrev pub fill_at : ℕ
fill_at = 10

-- a transfer, and the sector in hand
abbrev pub pass_at : ℕ
pass_at = 0

abbrev pub deleted_at : ℕ
deleted_at = 1

abbrev pub mt_at : ℕ
mt_at = 2

abbrev pub sk_at : ℕ
sk_at = 3

abbrev pub eot_at : ℕ
eot_at = 4

abbrev pub dtl_at : ℕ
dtl_at = 5

abbrev pub c_at : ℕ
c_at = 8

abbrev pub h_at : ℕ
h_at = 9

abbrev pub r_at : ℕ
r_at = 10

abbrev pub n_at : ℕ
n_at = 11

abbrev pub task_other_at : ℕ
task_other_at = 12

abbrev pub task_late_at : ℕ
task_late_at = 13

-- a stage
abbrev pub stage_at : ℕ
stage_at = 0

abbrev pub form_at : ℕ
form_at = 1

abbrev pub slot_at : ℕ
slot_at = 2

abbrev pub spot_count_at : ℕ
spot_count_at = 3

abbrev pub met_at : ℕ
met_at = 4

abbrev pub wrong_at : ℕ
wrong_at = 5

abbrev pub bad_at : ℕ
bad_at = 6

abbrev pub broken_at : ℕ
broken_at = 7

abbrev pub other_at : ℕ
other_at = 8

abbrev pub done_at : ℕ
done_at = 10
