mod Outcomes
mod NumberReading
mod ValueReading
mod NumberDeriving
mod StringDeriving
mod ValueDeriving
mod Rows
