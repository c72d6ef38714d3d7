mod Rows
mod LossRows
